use Rattle.std.proofs.Common.{◌≡◌, ◌+◌, pos}
use Rattle.row_loops.specs.Rows.{EachPlace, at}
use Rattle.narrow_kernels.proofs.narrow_conversions.copy_samples_to_narrow_row.Given as goal

abbrev pub invariant-loop-k : goal.invariant-loop-k
invariant-loop-k g l = EachPlace l.k (λ k. at l.out k ≡ pos (g.V.NarrowSamples.sample l.samples (l.place + k)))
