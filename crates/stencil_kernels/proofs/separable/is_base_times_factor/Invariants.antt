use Rattle.std.proofs.Common.{◌≡◌, ◌*ℤ◌}
use Rattle.row_loops.specs.Rows.{EachPlace, at}
use Rattle.stencil_kernels.proofs.separable.is_base_times_factor.Given as goal

abbrev pub invariant-loop-b : goal.invariant-loop-b
invariant-loop-b l = EachPlace l.b (λ k. at l.row k ≡ l.times *ℤ at l.base k)
