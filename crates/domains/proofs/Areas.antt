-- Areas as products of spans.
use Rattle.std.proofs.Common.{ℕ, ℤ, ◌≡◌, ◌*◌, zero, suc, sym, ◌∙◌, subst, arith, inl, inr, ◌≤ℤ◌, ◌<ℤ◌, ◌+ℤ◌, Bool, true, false}
use Rattle.std.proofs.Common.{IsTrue, ◌↔◌, [], ◌∷◌, length, pos}
use Rattle.std.proofs.lemmas.Int.{ints, by_lt_z}
use Rattle.std.proofs.lemmas.List.Elements.{Contains-append_right, All-weaker, All-contains_itself}
use Rattle.std.proofs.lemmas.List.Kept.{AllPairs-cons}
use Rattle.std.specs.Prelude.{AllPairs, Contains}
use Rattle.domains.specs.declared.area.Area.{Area}
use Rattle.domains.specs.Span.{Ends, Holds, IsSpan, IsSubspan, IsHull, hull_of, len_of, numbers_from, numbers_of}
use Rattle.domains.specs.Area.{HoldsPoint, IsArea, IsSubarea, IsCommon}
use Rattle.domains.specs.Area.{IsAreaHull, IsPointBefore, common_of, area_hull, point_count, points_of}
use Rattle.domains.proofs.PairLists.{length-pairs, Contains-here, Contains-cases, Contains-pairs, Contains-from_pairs, AllPairs-pairs}
use Rattle.domains.proofs.Lengths.{len_is}
use Rattle.domains.proofs.Spans.{inside_ends, length-numbers_from, meet_is, hull_is, hull_fits}

-- a span has its own ends
pub holds_lo : (s : Ends) → IsSpan s → Holds s s.lo
holds_lo s h = (omega (arith, ints), h.ordered)

pub holds_hi : (s : Ends) → IsSpan s → Holds s s.hi
holds_hi s h = (h.ordered, omega (arith, ints))

at_lo : (s : Ends) (v : ℤ) → IsSpan s → v ≡ s.lo → Holds s v
at_lo s v h e = subst (Holds s) (sym e) (holds_lo s h)

at_hi : (s : Ends) (v : ℤ) → IsSpan s → v ≡ s.hi → Holds s v
at_hi s v h e = subst (Holds s) (sym e) (holds_hi s h)

false_is_true : ¬ (◌≡◌ {A = Bool} false true)
false_is_true e = cc

-- the sides of a subarea are subspans
pub rows_inside : (a b : Area) → IsSpan a.cols → IsSubarea a b → IsSubspan a.rows b.rows
rows_inside a b h f r k = (f r a.cols.lo (k, holds_lo a.cols h)).0

pub cols_inside : (a b : Area) → IsSpan a.rows → IsSubarea a b → IsSubspan a.cols b.cols
cols_inside a b h f c k = (f a.rows.lo c (holds_lo a.rows h, k)).1

pub area_hull_is : (a b : Area) (rows cols : Ends) → IsArea a → IsArea b → IsHull a.rows b.rows rows → IsHull a.cols b.cols cols
    → IsAreaHull a b (record { rows = rows; cols = cols })
area_hull_is a b rows cols ha hb hr hc = record {
  first = λ r c k. (hr.first r k.0, hc.first c k.1);
  second = λ r c k. (hr.second r k.0, hc.second c k.1);
  least = λ s f g r c k. (
    hr.least s.rows (rows_inside a s ha.cols f) (rows_inside b s hb.cols g) r k.0,
    hc.least s.cols (cols_inside a s ha.rows f) (cols_inside b s hb.rows g) c k.1,
  );
}

-- an area lies in another exactly where both its corners do
corners : (a b : Area) → IsArea a → HoldsPoint b a.rows.lo a.cols.lo → HoldsPoint b a.rows.hi a.cols.hi → IsSubarea a b
corners a b h low high r c k =
    let first = low.0 in let last = high.0 in let left = low.1 in let right = high.1 in
    let row = k.0 in let col = k.1 in
    (inside_ends a.rows b.rows first.0 last.1 r row, inside_ends a.cols b.cols left.0 right.1 c col)

-- where the upper left corner lies in b, the lower right one decides
pub inside_by_corners : (a b : Area) (t : Bool) (v w y z : ℤ) → IsSpan a.rows → IsSpan a.cols → v ≡ a.rows.lo → w ≡ a.cols.lo
    → y ≡ a.rows.hi → z ≡ a.cols.hi → HoldsPoint b v w → IsTrue t ↔ HoldsPoint b y z
    → (IsTrue t → IsSubarea a b) × (IsSubarea a b → IsTrue t)
inside_by_corners a b t v w y z hr hc ev ew ey ez low high = (
  (λ k. corners a b (record { rows = hr; cols = hc })
      (subst (λ (x : ℤ). HoldsPoint b x a.cols.lo) ev (subst (λ (x : ℤ). HoldsPoint b v x) ew low))
      (subst (λ (x : ℤ). HoldsPoint b x a.cols.hi) ey (subst (λ (x : ℤ). HoldsPoint b y x) ez (high.0 k)))),
  (λ f. high.1 (f y z (at_hi a.rows y hr ey, at_hi a.cols z hc ez))),
)

-- where it does not, b does not hold the area
pub outside_by_corner : (a b : Area) (t : Bool) (v w : ℤ) → IsSpan a.rows → IsSpan a.cols → v ≡ a.rows.lo → w ≡ a.cols.lo → t ≡ false
    → IsTrue t ↔ HoldsPoint b v w → (IsTrue t → IsSubarea a b) × (IsSubarea a b → IsTrue t)
outside_by_corner a b t v w hr hc ev ew fails low = (
  (λ k. absurd (false_is_true (sym fails ∙ k))),
  (λ f. low.1 (f v w (at_lo a.rows v hr ev, at_lo a.cols w hc ew))),
)

-- a number that is an area's number of points counts its points
pub counts_points : (n : ℕ) (a : Area) → n ≡ point_count a → n ≡ length (points_of a)
counts_points n a e =
    e ∙ sym (length-pairs (numbers_of a.rows) (numbers_of a.cols)
    ∙ (λ i. length-numbers_from a.rows.lo (len_of a.rows) i * length-numbers_from a.cols.lo (len_of a.cols) i))

Contains-numbers_from : (v : ℤ) (n : ℕ) (x : ℤ) → v ≤ℤ x → x <ℤ (v +ℤ pos n) → Contains (numbers_from v n) x
Contains-numbers_from v zero x low high = absurd (omega (arith, ints))
Contains-numbers_from v (suc n) x low high = by_lt_z v x
    (λ h. Contains-append_right (v ∷ []) (numbers_from (v +ℤ pos 1) n) x
    (Contains-numbers_from (v +ℤ pos 1) n x (omega (arith, ints)) (omega (arith, ints))))
    (λ h. let same : v ≡ x = omega (arith, ints) in
    subst (λ z. Contains (numbers_from v (suc n)) z) same (Contains-here v (numbers_from (v +ℤ pos 1) n)))

Contains-from_numbers_from : (v : ℤ) (n : ℕ) (x : ℤ) → Contains (numbers_from v n) x → (v ≤ℤ x) × (x <ℤ (v +ℤ pos n))
Contains-from_numbers_from v zero x h = absurd (omega (arith, h.1))
Contains-from_numbers_from v (suc n) x h = elim (Contains-cases v (numbers_from (v +ℤ pos 1) n) x h) [
  | inl e ↦ (omega (arith, ints), omega (arith, ints))
  | inr k ↦ (let rest = Contains-from_numbers_from (v +ℤ pos 1) n x k in
      let low = rest.0 in let high = rest.1 in (omega (arith, ints), omega (arith, ints)))
]

-- the list of a span's numbers has exactly those
pub Contains-numbers_of : (s : Ends) (v : ℤ) → IsSpan s → Contains (numbers_of s) v ↔ Holds s v
Contains-numbers_of s v h = (
  (λ k. let both = Contains-from_numbers_from s.lo (len_of s) v k in
      let low = both.0 in let high = both.1 in (low, omega (arith, ints, len_is s h))),
  (λ k. let low = k.0 in let high = k.1 in Contains-numbers_from s.lo (len_of s) v low (omega (arith, ints, len_is s h))),
)

-- the list of an area's points has exactly those
pub Contains-points_of : (a : Area) (r c : ℤ) → IsArea a → Contains (points_of a) (r, c) ↔ HoldsPoint a r c
Contains-points_of a r c h = (
  (λ k. let both = Contains-from_pairs (numbers_of a.rows) (numbers_of a.cols) r c k in
      ((Contains-numbers_of a.rows r h.rows).0 both.0, (Contains-numbers_of a.cols c h.cols).0 both.1)),
  (λ k. Contains-pairs (numbers_of a.rows) (numbers_of a.cols) r c ((Contains-numbers_of a.rows r h.rows).1 k.0)
      ((Contains-numbers_of a.cols c h.cols).1 k.1)),
)

numbers_rise : (v : ℤ) (n : ℕ) → AllPairs ◌<ℤ◌ (numbers_from v n)
numbers_rise v zero = λ i j d p q. absurd (omega (arith, q))
numbers_rise v (suc n) =
    AllPairs-cons ◌<ℤ◌ v (numbers_from (v +ℤ pos 1) n)
    (All-weaker (Contains (numbers_from (v +ℤ pos 1) n)) (λ x. v <ℤ x)
    (λ x h. let low = (Contains-from_numbers_from (v +ℤ pos 1) n x h).0 in omega (arith, ints)) (numbers_from (v +ℤ pos 1) n)
    (All-contains_itself (numbers_from (v +ℤ pos 1) n)))
    (numbers_rise (v +ℤ pos 1) n)

-- and has each once, row by row
pub points_in_order : (a : Area) → AllPairs IsPointBefore (points_of a)
points_in_order a =
    AllPairs-pairs ◌<ℤ◌ ◌<ℤ◌ (numbers_of a.rows) (numbers_of a.cols) (numbers_rise a.rows.lo (len_of a.rows))
    (numbers_rise a.cols.lo (len_of a.cols))

-- ---- the intersection and the hull by their spans

pub common_is : (a b : Area) → IsCommon a b (common_of a b)
common_is a b r c = (
  (λ h. let row = (meet_is a.rows b.rows r).0 h.0 in let col = (meet_is a.cols b.cols c).0 h.1 in ((row.0, col.0), (row.1, col.1))),
  (λ h. ((meet_is a.rows b.rows r).1 (h.0.0, h.1.0), (meet_is a.cols b.cols c).1 (h.0.1, h.1.1))),
)

pub hull_of_areas : (a b : Area) → IsArea a → IsArea b → IsAreaHull a b (area_hull a b)
hull_of_areas a b h k =
    area_hull_is a b (hull_of a.rows b.rows) (hull_of a.cols b.cols) h k (hull_is a.rows b.rows h.rows k.rows)
    (hull_is a.cols b.cols h.cols k.cols)

pub area_hull_fits : (a b : Area) → IsArea a → IsArea b → IsArea (area_hull a b)
area_hull_fits a b h k = record { rows = hull_fits a.rows b.rows h.rows k.rows; cols = hull_fits a.cols b.cols h.cols k.cols }
