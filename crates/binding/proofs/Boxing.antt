-- The box of a case is that of its tests, once names were looked up.
use Rattle.std.proofs.Common.{arith, ◌≡◌, ◌↔◌, ℤ, ◌≤ℤ◌, List, [], ◌∷◌, Bool, true, false, Option, Some, None, subst, sym, refl, ap, ◌∙◌}
use Rattle.std.specs.Prelude.{map, if◌then◌else◌}
use Rattle.std.specs.Str.{bytes_eq}
use Rattle.std.proofs.lemmas.Int.{ints}
use Rattle.domains.specs.Span.{Ends}
use Rattle.domains.specs.Area.{HoldsPoint, IsArea}
use Rattle.domains.specs.declared.area.Area.{Area}
use Rattle.operators.specs.declared.operator.Relation.{Relation}
use Rattle.operators.specs.declared.operator.Relation.TheVariants.{AtMost, AtLeast, Equals}
use Rattle.pipe_tree.specs.declared.tree.Test.{Test}
use Rattle.pipe_tree.specs.declared.tree.Test.TheVariants.{Compare, Remainder}
use Rattle.pipe_bounds.specs.Boxes as text
use Rattle.pipe_bounds.specs.Boxes.{Meets}
use Rattle.domains.specs.Cuts.{IsCutArea}
use Rattle.pipe_bounds.specs.Settings.{affine_value}
use Rattle.job.specs.Formula.{row, column}
use Rattle.job.specs.Values.{along}
use Rattle.job.specs.Boxes.{Relates, BoundHolds, BoundsHold, box_of}
use Rattle.binding.specs.Binding.{Program, Variables, test_of}
use Rattle.job.proofs.BoxLaws.{box_is_cut, box_is_area}

along_axis : (t : Bool) (r c : ℤ) → along (if t then row else column) r c ≡ (if t then r else c)
along_axis true r c = refl
along_axis false r c = refl

meets_is : (relation : Relation) (v bound : ℤ) → Meets relation v bound ↔ Relates relation v bound
meets_is AtMost v bound = ((λ h. h), (λ h. h))
meets_is AtLeast v bound = ((λ h. h), (λ h. h))
meets_is Equals v bound = (
  (λ h. let low = h.0 in let high = h.1 in omega (arith, ints)),
  (λ is. (omega (arith, ints), omega (arith, ints))),
)

bound_is : (p : Program) (own : Variables) (t : Test) (r c : ℤ) → text.BoundHolds p.settings own.row_name t r c
    ↔ BoundHolds (test_of p own t) r c
bound_is p own (Compare x relation terms) r c =
    let there = along_axis (bytes_eq x own.row_name) r c in
    let bound = affine_value p.settings terms in (
      (λ h. subst (λ z. Relates relation z bound) (sym there) ((meets_is relation (if bytes_eq x own.row_name then r else c) bound).0 h)),
      (λ h. (meets_is relation (if bytes_eq x own.row_name then r else c) bound).1 (subst (λ z. Relates relation z bound) there h)),
    )
bound_is p own (Remainder x modulus rest) r c = ((λ h. h), (λ h. h))

bounds_are : (p : Program) (own : Variables) (ts : List Test) (r c : ℤ) → text.BoundsHold p.settings own.row_name ts r c
    ↔ BoundsHold (map (test_of p own) ts) r c
bounds_are p own [] r c = ((λ h. h), (λ h. h))
bounds_are p own (t ∷ ts) r c =
    let one = bound_is p own t r c in
    let all = bounds_are p own ts r c in
    ((λ h. (one.0 h.0, all.0 h.1)), (λ h. (one.1 h.0, all.1 h.1)))

-- ---- what is cut in one way is one area

abbrev IsOrdered : Area → Type 0
IsOrdered a = (a.rows.lo ≤ℤ a.rows.hi) × (a.cols.lo ≤ℤ a.cols.hi)

abbrev IsLess : Area → Area → Type 0
IsLess a b = (r c : ℤ) → HoldsPoint a r c → HoldsPoint b r c

top_left : (a : Area) → IsOrdered a → HoldsPoint a a.rows.lo a.cols.lo
top_left a h = let down = h.0 in let right = h.1 in ((omega (arith, ints), down), (omega (arith, ints), right))

bottom_right : (a : Area) → IsOrdered a → HoldsPoint a a.rows.hi a.cols.hi
bottom_right a h = let down = h.0 in let right = h.1 in ((down, omega (arith, ints)), (right, omega (arith, ints)))

same_ends : (s t : Ends) → s.lo ≡ t.lo → s.hi ≡ t.hi → s ≡ t
same_ends s t e f =
    ap (λ (z : ℤ). let s : Ends = record { lo = z; hi = s.hi } in s) e ∙ ap (λ (z : ℤ). let s : Ends = record { lo = t.lo; hi = z } in s) f

same_area : (a b : Area) → IsOrdered a → IsOrdered b → IsLess a b → IsLess b a → a ≡ b
same_area a b some others into back =
    let p = into a.rows.lo a.cols.lo (top_left a some) in
    let q = into a.rows.hi a.cols.hi (bottom_right a some) in
    let u = back b.rows.lo b.cols.lo (top_left b others) in
    let v = back b.rows.hi b.cols.hi (bottom_right b others) in
    let p0 = p.0.0 in let p1 = p.1.0 in let q0 = q.0.1 in let q1 = q.1.1 in
    let u0 = u.0.0 in let u1 = u.1.0 in let v0 = v.0.1 in let v1 = v.1.1 in
    let rows : a.rows ≡ b.rows = same_ends a.rows b.rows (omega (arith, ints)) (omega (arith, ints)) in
    let cols : a.cols ≡ b.cols = same_ends a.cols b.cols (omega (arith, ints)) (omega (arith, ints)) in
    ap (λ (s : Ends). let m : Area = record { rows = s; cols = a.cols } in m) rows
    ∙ ap (λ (s : Ends). let m : Area = record { rows = b.rows; cols = s } in m) cols

same_cut : (P Q : ℤ → ℤ → Type 0) (domain : Area) (o q : Option Area) → ((r c : ℤ) → P r c ↔ Q r c) → IsCutArea P domain o
    → IsCutArea Q domain q
    → ((a : Area) → o ≡ Some a → IsOrdered a) → ((a : Area) → q ≡ Some a → IsOrdered a) → o ≡ q
same_cut P Q domain None None same cut other some others = refl
same_cut P Q domain None (Some b) same cut other some others =
    let h = (other b.rows.lo b.cols.lo).0 (top_left b (others b refl)) in
    absurd (cut b.rows.lo b.cols.lo (h.0, (same b.rows.lo b.cols.lo).1 h.1))
same_cut P Q domain (Some a) None same cut other some others =
    let h = (cut a.rows.lo a.cols.lo).0 (top_left a (some a refl)) in
    absurd (other a.rows.lo a.cols.lo (h.0, (same a.rows.lo a.cols.lo).0 h.1))
same_cut P Q domain (Some a) (Some b) same cut other some others =
    ap Some (same_area a b (some a refl) (others b refl)
    (λ r c h. let k = (cut r c).0 h in (other r c).1 (k.0, (same r c).0 k.1))
    (λ r c h. let k = (other r c).0 h in (cut r c).1 (k.0, (same r c).1 k.1)))

-- the area that the tests of the text leave is the box of the tests with numbers
pub part_is : (p : Program) (own : Variables) (domain : Area) (ts : List Test) (o : Option Area) → IsArea domain
    → IsCutArea (text.BoundsHold p.settings own.row_name ts) domain o
    → ((a : Area) → o ≡ Some a → IsArea a) → o ≡ box_of domain (map (test_of p own) ts)
part_is p own domain ts o h cut some =
    let tests = map (test_of p own) ts in
    same_cut (text.BoundsHold p.settings own.row_name ts) (BoundsHold tests) domain o (box_of domain tests) (bounds_are p own ts) cut
    (box_is_cut domain tests)
    (λ a e. let k = some a e in (k.rows.ordered, k.cols.ordered))
    (λ a e. let k = box_is_area domain a tests h e in (k.rows.ordered, k.cols.ordered))
