use Rattle.std.proofs.Common.{◌≡◌, ◌*◌}
use Rattle.row_loops.specs.Rows.{EachPlace, at}
use Rattle.narrow_kernels.proofs.narrow_gathering.gather_steps_of_narrow_line.Given as goal

abbrev pub invariant-loop-k : goal.invariant-loop-k
invariant-loop-k g l = EachPlace l.k (λ k. at l.out k ≡ at l.line (k * g.row.STEP))
