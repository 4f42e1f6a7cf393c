-- Bounds of coordinates: what comparisons imply for a point. Remainders bound nothing.
use Rattle.std.specs.Prelude.{ℤ, ◌≤ℤ◌, ◌≡◌, List, [], ◌∷◌}
use Rattle.operators.specs.declared.operator.Relation.{Relation}
use Rattle.operators.specs.declared.operator.Relation.TheVariants.{AtMost, AtLeast, Equals}
use Rattle.operators.specs.Tests.{Test, compare, remainder}
use Rattle.operators.specs.Values.{along}

abbrev pub Relates : Relation → ℤ → ℤ → Type 0
Relates AtMost a b = a ≤ℤ b
Relates AtLeast a b = b ≤ℤ a
Relates Equals a b = a ≡ b

abbrev pub BoundHolds : Test → ℤ → ℤ → Type 0
BoundHolds (compare x relation bound) r c = Relates relation (along x r c) bound
BoundHolds (remainder x modulus rest) r c = Unit {0}

abbrev pub BoundsHold : List Test → ℤ → ℤ → Type 0
BoundsHold [] r c = Unit {0}
BoundsHold (t ∷ ts) r c = BoundHolds t r c × BoundsHold ts r c
