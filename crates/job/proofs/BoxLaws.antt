-- The box of tests has the points of the domain at which the tests of bounds hold.
use Rattle.std.proofs.Common.{arith, ◌≡◌, ◌↔◌, ℤ, ◌≤ℤ◌, List, [], ◌∷◌, Bool, true, false, Option, Some, None, subst, sym, refl}
use Rattle.std.specs.Prelude.{int_le, ◌&&◌, if◌then◌else◌}
use Rattle.std.proofs.lemmas.Int.{ints, clamps}
use Rattle.std.proofs.lemmas.Bool.{and_parts, and_from}
use Rattle.std.proofs.lemmas.Bool.Decides.{Decides-int_eq}
use Rattle.domains.specs.Span.{Ends, Holds}
use Rattle.domains.specs.Area.{HoldsPoint, IsArea}
use Rattle.domains.specs.declared.area.Area.{Area}
use Rattle.operators.specs.declared.operator.Relation.{Relation}
use Rattle.operators.specs.declared.operator.Relation.TheVariants.{AtMost, AtLeast, Equals}
use Rattle.job.specs.Formula.{row, column, Test, compare, remainder}
use Rattle.job.specs.Values.{along, is_related, is_passed, all_passed}
use Rattle.domains.specs.Cuts.{IsCutArea}
use Rattle.job.specs.Boxes.{Relates, BoundHolds, BoundsHold, cut_ends, cut_by, cut_by_all, if_some, box_of}

Holds-cut_ends : (relation : Relation) (bound : ℤ) (s : Ends) (v : ℤ) → Holds (cut_ends relation bound s) v
    ↔ (Holds s v × Relates relation v bound)
Holds-cut_ends AtMost bound s v = (
  (λ h. let low = h.0 in let high = h.1 in ((omega (arith, ints, clamps), omega (arith, ints, clamps)), omega (arith, ints, clamps))),
  (λ h. let low = h.0.0 in let high = h.0.1 in let most = h.1 in (omega (arith, ints, clamps), omega (arith, ints, clamps))),
)
Holds-cut_ends AtLeast bound s v = (
  (λ h. let low = h.0 in let high = h.1 in ((omega (arith, ints, clamps), omega (arith, ints, clamps)), omega (arith, ints, clamps))),
  (λ h. let low = h.0.0 in let high = h.0.1 in let least = h.1 in (omega (arith, ints, clamps), omega (arith, ints, clamps))),
)
Holds-cut_ends Equals bound s v = (
  (λ h. let low = h.0 in let high = h.1 in ((omega (arith, ints, clamps), omega (arith, ints, clamps)), omega (arith, ints, clamps))),
  (λ h. let low = h.0.0 in let high = h.0.1 in let is = h.1 in (omega (arith, ints, clamps), omega (arith, ints, clamps))),
)

HoldsPoint-cut_by : (t : Test) (a : Area) (r c : ℤ) → HoldsPoint (cut_by t a) r c ↔ (HoldsPoint a r c × BoundHolds t r c)
HoldsPoint-cut_by (compare row relation bound) a r c = (
  (λ h. let cut = (Holds-cut_ends relation bound a.rows r).0 h.0 in ((cut.0, h.1), cut.1)),
  (λ h. ((Holds-cut_ends relation bound a.rows r).1 (h.0.0, h.1), h.0.1)),
)
HoldsPoint-cut_by (compare column relation bound) a r c = (
  (λ h. let cut = (Holds-cut_ends relation bound a.cols c).0 h.1 in ((h.0, cut.0), cut.1)),
  (λ h. (h.0.0, (Holds-cut_ends relation bound a.cols c).1 (h.0.1, h.1))),
)
HoldsPoint-cut_by (remainder x modulus rest) a r c = ((λ h. (h, tt)), (λ h. h.0))

HoldsPoint-cut_by_all : (ts : List Test) (a : Area) (r c : ℤ) → HoldsPoint (cut_by_all ts a) r c ↔ (HoldsPoint a r c × BoundsHold ts r c)
HoldsPoint-cut_by_all [] a r c = ((λ h. (h, tt)), (λ h. h.0))
HoldsPoint-cut_by_all (t ∷ ts) a r c = (
  (λ h. let later = (HoldsPoint-cut_by_all ts (cut_by t a) r c).0 h in
      let first = (HoldsPoint-cut_by t a r c).0 later.0 in (first.0, (first.1, later.1))),
  (λ h. (HoldsPoint-cut_by_all ts (cut_by t a) r c).1 ((HoldsPoint-cut_by t a r c).1 (h.0, h.1.0), h.1.1)),
)

-- ---- whether there is a point

le_from : (a b : ℤ) → int_le a b ≡ true → a ≤ℤ b
le_from a b t = omega (arith, ints)

to_le : (a b : ℤ) → a ≤ℤ b → int_le a b ≡ true
to_le a b h = sym (by (int_le a b) refl)
  where
    by : (t : Bool) → int_le a b ≡ t → true ≡ int_le a b
    by t e = omega (arith, ints)

has_point : (a : Area) (r c : ℤ) → HoldsPoint a r c → (int_le a.rows.lo a.rows.hi && int_le a.cols.lo a.cols.hi) ≡ true
has_point a r c h =
    let top = h.0.0 in let bottom = h.0.1 in let left = h.1.0 in let right = h.1.1 in
    and_from (int_le a.rows.lo a.rows.hi) (int_le a.cols.lo a.cols.hi) (to_le a.rows.lo a.rows.hi (omega (arith, ints)))
    (to_le a.cols.lo a.cols.hi (omega (arith, ints)))

if_some_is : (P : ℤ → ℤ → Type 0) (domain a : Area) → ((r c : ℤ) → HoldsPoint a r c ↔ (HoldsPoint domain r c × P r c))
    → IsCutArea P domain (if_some a)
if_some_is P domain a same = by (int_le a.rows.lo a.rows.hi && int_le a.cols.lo a.cols.hi) refl
  where
    by : (t : Bool) → (int_le a.rows.lo a.rows.hi && int_le a.cols.lo a.cols.hi) ≡ t → IsCutArea P domain (if t then Some a else None)
    by true e = same
    by false e =
        λ r c h. let some : (int_le a.rows.lo a.rows.hi && int_le a.cols.lo a.cols.hi) ≡ true = has_point a r c ((same r c).1 h) in
        absurd (cc)

pub box_is_cut : (domain : Area) (ts : List Test) → IsCutArea (BoundsHold ts) domain (box_of domain ts)
box_is_cut domain ts = if_some_is (BoundsHold ts) domain (cut_by_all ts domain) (HoldsPoint-cut_by_all ts domain)

-- ---- a box is an area

box_ordered : (a box : Area) → if_some a ≡ Some box → (box.rows.lo ≤ℤ box.rows.hi) × (box.cols.lo ≤ℤ box.cols.hi)
box_ordered a box = by (int_le a.rows.lo a.rows.hi && int_le a.cols.lo a.cols.hi) refl
  where
    by : (t : Bool) → (int_le a.rows.lo a.rows.hi && int_le a.cols.lo a.cols.hi) ≡ t → (if t then Some a else None) ≡ Some box
        → (box.rows.lo ≤ℤ box.rows.hi) × (box.cols.lo ≤ℤ box.cols.hi)
    by true e is =
        let both = and_parts (int_le a.rows.lo a.rows.hi) (int_le a.cols.lo a.cols.hi) e in
        let same : a ≡ box = cc in
        subst (λ (b : Area). (b.rows.lo ≤ℤ b.rows.hi) × (b.cols.lo ≤ℤ b.cols.hi)) same
        (le_from a.rows.lo a.rows.hi both.0, le_from a.cols.lo a.cols.hi both.1)
    by false e is = absurd (cc)

within : (P : ℤ → ℤ → Type 0) (domain box : Area) (o : Option Area) → IsCutArea P domain o → o ≡ Some box → (r c : ℤ) → HoldsPoint box r c
    → HoldsPoint domain r c
within P domain box None cut is r c h = absurd (cc)
within P domain box (Some a) cut is r c h = ((cut r c).0 (let same : box ≡ a = cc in subst (λ (b : Area). HoldsPoint b r c) same h)).0

pub box_is_area : (domain box : Area) (ts : List Test) → IsArea domain → box_of domain ts ≡ Some box → IsArea box
box_is_area domain box ts h is =
    let ordered = box_ordered (cut_by_all ts domain) box is in
    let down = ordered.0 in let right = ordered.1 in
    let first =
    within (BoundsHold ts) domain box (box_of domain ts) (box_is_cut domain ts) is box.rows.lo box.cols.lo
    ((omega (arith, ints), down), (omega (arith, ints), right)) in
    let last =
    within (BoundsHold ts) domain box (box_of domain ts) (box_is_cut domain ts) is box.rows.hi box.cols.hi
    ((down, omega (arith, ints)), (right, omega (arith, ints))) in
    let top = first.0.0 in let left = first.1.0 in let bottom = last.0.1 in let end = last.1.1 in
    let row_least = h.rows.least in let row_most = h.rows.most in let col_least = h.cols.least in let col_most = h.cols.most in
    record {
      rows = record { least = omega (arith, ints); ordered = down; most = omega (arith, ints) };
      cols = record { least = omega (arith, ints); ordered = right; most = omega (arith, ints) };
    }

-- ---- where all tests hold, the point lies in the box

is_related-true : (relation : Relation) (a b : ℤ) → is_related relation a b ≡ true → Relates relation a b
is_related-true AtMost a b e = le_from a b e
is_related-true AtLeast a b e = le_from b a e
is_related-true Equals a b e = (Decides-int_eq a b).0 e

passed_bound : (t : Test) (r c : ℤ) → is_passed t r c ≡ true → BoundHolds t r c
passed_bound (compare x relation bound) r c e = is_related-true relation (along x r c) bound e
passed_bound (remainder x modulus rest) r c e = tt

passed_bounds : (ts : List Test) (r c : ℤ) → all_passed ts r c ≡ true → BoundsHold ts r c
passed_bounds [] r c e = tt
passed_bounds (t ∷ ts) r c e =
    let both = and_parts (is_passed t r c) (all_passed ts r c) e in (passed_bound t r c both.0, passed_bounds ts r c both.1)

there_in : (P : ℤ → ℤ → Type 0) (domain : Area) (o : Option Area) (r c : ℤ) → IsCutArea P domain o → HoldsPoint domain r c → P r c
    → (box : Area) × (o ≡ Some box) × HoldsPoint box r c
there_in P domain None r c cut h p = absurd (cut r c (h, p))
there_in P domain (Some box) r c cut h p = (box, refl, (cut r c).1 (h, p))

pub passed_in_box : (domain : Area) (ts : List Test) (r c : ℤ) → HoldsPoint domain r c → all_passed ts r c ≡ true
    → (box : Area) × (box_of domain ts ≡ Some box) × HoldsPoint box r c
passed_in_box domain ts r c h e = there_in (BoundsHold ts) domain (box_of domain ts) r c (box_is_cut domain ts) h (passed_bounds ts r c e)
