use Rattle.std.proofs.Common.{◌≡◌, take}
use Rattle.joined_formulas.specs.Columns.{column_kernel}
use Rattle.joined_formulas.proofs.columns.is_joined_column_kernel.Given as goal

abbrev pub invariant-loop-place : goal.invariant-loop-place
invariant-loop-place l = take l.place l.kernel ≡ column_kernel (take l.place l.down)
