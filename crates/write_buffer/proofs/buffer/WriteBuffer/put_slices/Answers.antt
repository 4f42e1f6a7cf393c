use Rattle.std.proofs.Common.{arith}
use Rattle.write_buffer.proofs.PassingLaws.{breaks_more, passes_more, puts_err}
use Rattle.write_buffer.proofs.buffer.WriteBuffer.put_slices.Goals as goal

pub returns-in_err-put_bytes : goal.returns-in_err-put_bytes
returns-in_err-put_bytes g c =
    puts_err c.from_residual.result _ _ _ _ _ _ _ c.from_residual.ensures.0
    (breaks_more (λ part. part.now) c.args.parts.now c.loop-part.part-index _ _ _ _ _ _ _ _ _ (omega arith) c.loop-part.invariant
    c.in_err-put_bytes.ensures)

pub loop-part-preserved : goal.loop-part-preserved
loop-part-preserved g c =
    passes_more (λ part. part.now) c.args.parts.now c.loop-part.part-index _ _ _ _ _ _ _ _ _ _ (omega arith) c.loop-part.invariant
    c.in_ok-put_bytes.ensures
