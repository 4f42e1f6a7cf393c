-- Where in a row of points the tests of a case hold.
use Rattle.std.specs.Prelude.{ℤ, pos, ◌≡◌, true, false, List}
use Rattle.std.specs.Ordering.{int_eq}
use Rattle.domains.specs.Arithmetic.{floor_rem}
use Rattle.operators.specs.Tests.{Test}
use Rattle.operators.specs.Values.{all_passed}
use Rattle.operators.specs.Bounds.{BoundsHold}
use Rattle.operators.specs.Limits.{IsDivisor}
use Rattle.row_kernels.specs.declared.guards.RowMask.{RowMask}
use Rattle.row_kernels.specs.declared.guards.RowMask.TheVariants.{Nowhere, Everywhere, Leaving, Unknown}

-- at the points of row r at which the bounds hold, all tests hold exactly where the mask says
abbrev pub HoldsWhere : RowMask → List Test → ℤ → Type 0
HoldsWhere Nowhere tests r = (c : ℤ) → all_passed tests r c ≡ false
HoldsWhere Everywhere tests r = (c : ℤ) → BoundsHold tests r c → all_passed tests r c ≡ true
HoldsWhere (Leaving modulus rest) tests r =
    IsDivisor modulus × ((c : ℤ) → BoundsHold tests r c → all_passed tests r c ≡ int_eq (floor_rem c (pos modulus)) (pos rest))
HoldsWhere Unknown tests r = Unit {0}
