-- All are copied.
use Rattle.std.proofs.Common.{arith}
use Rattle.netpbm.proofs.Ranges.{copied_part}
use Rattle.netpbm.proofs.parts.copy_plane_slice_into_buffer.Goals as goal

pub returns : goal.returns
returns c = λ list is. copied_part _ c.args.samples.now c.args.start c.args.end list is (omega (arith, is.0, c.requires.within)) (omega arith)
    (λ k lt. c.loop-k.invariant k (omega arith))
