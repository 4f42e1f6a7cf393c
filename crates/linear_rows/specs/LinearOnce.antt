-- A linear row can be computed in one way: any two proofs of it are equal.
use Rattle.std.proofs.Props.{props}
use Rattle.linear_rows.specs.declared.linear_rows.LinearRow.{LinearRow}
use Rattle.linear_rows.specs.declared.linear_rows.LinearRow.TheVariants.{Quotient, Mean}
use Rattle.linear_rows.specs.RowFormulas.{IsRightLinear}

pub IsRightLinear-prop : (row : LinearRow) → IsProp (IsRightLinear row)
IsRightLinear-prop (Quotient quotient) = hlevel props
IsRightLinear-prop (Mean mean) = hlevel props
