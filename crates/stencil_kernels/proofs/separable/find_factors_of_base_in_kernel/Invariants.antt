use Rattle.std.proofs.Common.{◌≡◌, length}
use Rattle.operators.specs.Values.{factors}
use Rattle.row_loops.specs.Rows.{EachPlace, at}
use Rattle.stencil_kernels.specs.Separable.{IsMultiple}
use Rattle.stencil_kernels.proofs.separable.find_factors_of_base_in_kernel.Given as goal

abbrev pub invariant-loop-row : goal.invariant-loop-row
invariant-loop-row l = record {
  height : length l.down.items ≡ l.row-index;
  rows : EachPlace l.row-index (λ a. IsMultiple (factors l.kernel a) (at l.down.items a) l.base);
}
