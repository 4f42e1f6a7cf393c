-- Boxes: the points of a domain at which the tests of bounds hold. Tests of remainders leave all points in a box.
use Rattle.std.specs.Prelude.{ℤ, ◌≡◌, int_le, ◌&&◌, if◌then◌else◌, Option, Some, None, List, [], ◌∷◌, All}
use Rattle.std.specs.Int.{int_min, int_max}
use Rattle.domains.specs.Span.{Ends}
use Rattle.domains.specs.declared.area.Area.{Area}
use Rattle.operators.specs.declared.operator.Relation.{Relation}
use Rattle.operators.specs.declared.operator.Relation.TheVariants.{AtMost, AtLeast, Equals}
use Rattle.job.specs.Formula.{Axis, row, column, Test, compare, remainder}
use Rattle.job.specs.Pipeline.{Body, plane, function, accumulator}
pub use Rattle.operators.specs.Bounds.{Relates, BoundHolds, BoundsHold}

-- ---- the box, by its ends

abbrev pub cut_ends : Relation → ℤ → Ends → Ends
cut_ends AtMost bound s = record { lo = s.lo; hi = int_min s.hi bound }
cut_ends AtLeast bound s = record { lo = int_max s.lo bound; hi = s.hi }
cut_ends Equals bound s = record { lo = int_max s.lo bound; hi = int_min s.hi bound }

abbrev pub cut_along : Axis → Relation → ℤ → Area → Area
cut_along row relation bound a = record { rows = cut_ends relation bound a.rows; cols = a.cols }
cut_along column relation bound a = record { rows = a.rows; cols = cut_ends relation bound a.cols }

abbrev pub cut_by : Test → Area → Area
cut_by (compare x relation bound) a = cut_along x relation bound a
cut_by (remainder x modulus rest) a = a

abbrev pub cut_by_all : List Test → Area → Area
cut_by_all [] a = a
cut_by_all (t ∷ ts) a = cut_by_all ts (cut_by t a)

-- the area, if it has a point
abbrev pub if_some : Area → Option Area
if_some a = if int_le a.rows.lo a.rows.hi && int_le a.cols.lo a.cols.hi then Some a else None

-- the box of tests in a domain
abbrev pub box_of : Area → List Test → Option Area
box_of domain tests = if_some (cut_by_all tests domain)

-- the box of each case of a stage is that of its tests
abbrev pub AreBoxed : Area → Body → Type 0
AreBoxed domain (plane n) = Unit {0}
AreBoxed domain (function cases otherwise) = All (λ p. p.box ≡ box_of domain p.tests) cases
AreBoxed domain (accumulator fold bins value bin) = Unit {0}
