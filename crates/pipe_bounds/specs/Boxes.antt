-- The box of a case: the points of a domain at which the tests of bounds hold.
use Rattle.std.specs.Prelude.{ℕ, ℤ, ◌≤ℤ◌, if◌then◌else◌, List, [], ◌∷◌}
use Rattle.std.specs.Str.{bytes_eq}
use Rattle.operators.specs.declared.operator.Relation.{Relation}
use Rattle.operators.specs.declared.operator.Relation.TheVariants.{AtMost, AtLeast, Equals}
use Rattle.pipe_tree.specs.declared.tree.Test.{Test}
use Rattle.pipe_tree.specs.declared.tree.Test.TheVariants.{Compare, Remainder}
use Rattle.pipe_bounds.specs.declared.params.Setting.{Setting}
use Rattle.pipe_bounds.specs.Settings.{affine_value}

abbrev pub Meets : Relation → ℤ → ℤ → Type 0
Meets AtMost v bound = v ≤ℤ bound
Meets AtLeast v bound = bound ≤ℤ v
Meets Equals v bound = (v ≤ℤ bound) × (bound ≤ℤ v)

-- a test holds at a point, where the variable of the rows is `row`; a test of a remainder excludes no points from the box
abbrev pub BoundHolds : List Setting → List ℕ → Test → ℤ → ℤ → Type 0
BoundHolds ss row (Compare x relation bound) r c = Meets relation (if bytes_eq x row then r else c) (affine_value ss bound)
BoundHolds ss row (Remainder x m rest) r c = Unit {0}

abbrev pub BoundsHold : List Setting → List ℕ → List Test → ℤ → ℤ → Type 0
BoundsHold ss row [] r c = Unit {0}
BoundsHold ss row (t ∷ ts) r c = BoundHolds ss row t r c × BoundsHold ss row ts r c
