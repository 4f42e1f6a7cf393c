-- The parts of a span that have a number in common with another span stand in a row.
use Rattle.std.proofs.Common.{ℕ, ℤ, pos, ◌≡◌, ◌+◌, ◌*◌, ◌<◌, ◌≤◌, ◌+ℤ◌, ◌≤ℤ◌, refl, sym, subst, arith, ◌↔◌, Bool, true, IsTrue}
use Rattle.std.specs.Int.{int_gap, int_max}
use Rattle.std.specs.Prelude.{int_le}
use Rattle.std.proofs.Math.Nat.{mod-lt, mul-le-mul_right}
use Rattle.std.proofs.lemmas.Nat.{div-add-mod', le-div, div_below}
use Rattle.std.proofs.lemmas.Bool.{and_parts, and_from}
use Rattle.std.proofs.lemmas.Int.{ints, clamps}
use Rattle.domains.specs.Span.{Ends, Holds, IsSpan, AreApart, meet_of}
use Rattle.domains.specs.Tiles.{part_of, part_count, part_at, spans_meet}
use Rattle.domains.proofs.Floors.{div-mono}
use Rattle.domains.proofs.PartsOfSpans.{starts_within, part_fits, part_inside}
use Rattle.domains.proofs.Lengths.{gap_is}

le_from : (a b : ℤ) → IsTrue (int_le a b) → a ≤ℤ b
le_from a b t = omega (arith, ints)

to_le : (a b : ℤ) → a ≤ℤ b → IsTrue (int_le a b)
to_le a b h = sym (by (int_le a b) refl)
  where
    by : (t : Bool) → int_le a b ≡ t → true ≡ int_le a b
    by t e = omega (arith, ints)

-- two spans have a number in common where neither begins behind the other's end
pub meet_ends : (a b : Ends) → IsTrue (spans_meet a b) → (a.lo ≤ℤ b.hi) × (b.lo ≤ℤ a.hi)
meet_ends a b t = let both = and_parts (int_le a.lo b.hi) (int_le b.lo a.hi) t in (le_from a.lo b.hi both.0, le_from b.lo a.hi both.1)

pub ends_meet : (a b : Ends) → a.lo ≤ℤ b.hi → b.lo ≤ℤ a.hi → IsTrue (spans_meet a b)
ends_meet a b h k = and_from (int_le a.lo b.hi) (int_le b.lo a.hi) (to_le a.lo b.hi h) (to_le b.lo a.hi k)

-- a number in common, where the two are not empty
pub common_number : (a b : Ends) → a.lo ≤ℤ a.hi → b.lo ≤ℤ b.hi → IsTrue (spans_meet a b)
    → Holds a (int_max a.lo b.lo) × Holds b (int_max a.lo b.lo)
common_number a b f g t =
    let e = meet_ends a b t in let first = e.0 in let second = e.1 in
    ((omega (arith, ints, clamps), omega (arith, ints, clamps)), (omega (arith, ints, clamps), omega (arith, ints, clamps)))

pub meets_where_both_hold : (a b : Ends) (v : ℤ) → Holds a v → Holds b v → IsTrue (spans_meet a b)
meets_where_both_hold a b v h k =
    let a_low = h.0 in let a_high = h.1 in let b_low = k.0 in let b_high = k.1 in
    ends_meet a b (omega (arith, ints)) (omega (arith, ints))

-- the parts that meet are those from the part of the first common number to the part of the last
pub meeting_parts : (s o : Ends) (side k : ℕ) → IsSpan s → IsSpan (meet_of s o) → 1 ≤ side → k < part_count s side
    → IsTrue (spans_meet (part_of s side k) o) ↔ ((part_at s side (meet_of s o).lo ≤ k) × (k < part_at s side (meet_of s o).hi + 1))
meeting_parts s o side k h m p there = (to, from)
  where
    some : 0 < side
    some = omega arith

    low : s.lo +ℤ pos (int_gap s.lo (meet_of s o).lo) ≡ (meet_of s o).lo
    low = gap_is s.lo (meet_of s o).lo (omega (arith, ints, clamps))

    high : s.lo +ℤ pos (int_gap s.lo (meet_of s o).hi) ≡ (meet_of s o).hi
    high = let order = m.ordered in gap_is s.lo (meet_of s o).hi (omega (arith, ints, clamps))

    at_last : k < part_at s side (meet_of s o).hi + 1 → k ≤ part_at s side (meet_of s o).hi
    at_last r = omega arith

    to : IsTrue (spans_meet (part_of s side k) o) → (part_at s side (meet_of s o).lo ≤ k) × (k < part_at s side (meet_of s o).hi + 1)
    to t =
        let e = meet_ends (part_of s side k) o t in
        let first = e.0 in
        let second = e.1 in
        let starts = starts_within s side k h p there in
        let next : (k + 1) * side ≡ k * side + side = omega arith in
        let above : k * side ≤ int_gap s.lo (meet_of s o).hi = omega (arith, ints, clamps, high) in
        let below : int_gap s.lo (meet_of s o).lo < (k + 1) * side = omega (arith, ints, clamps, low) in
        let from_first : part_at s side (meet_of s o).lo < k + 1 = div_below (int_gap s.lo (meet_of s o).lo) side (k + 1) some below in
        let to_last : k ≤ part_at s side (meet_of s o).hi = le-div k (int_gap s.lo (meet_of s o).hi) side some above in
        (omega arith, omega arith)

    from : (part_at s side (meet_of s o).lo ≤ k) × (k < part_at s side (meet_of s o).hi + 1) → IsTrue (spans_meet (part_of s side k) o)
    from r =
        let at_least = mul-le-mul_right side r.0 in
        let at_most = mul-le-mul_right side (at_last r.1) in
        let first = div-add-mod' (int_gap s.lo (meet_of s o).lo) side in
        let last = div-add-mod' (int_gap s.lo (meet_of s o).hi) side in
        let rest = mod-lt (int_gap s.lo (meet_of s o).lo) some in
        let next : (k + 1) * side ≡ k * side + side = omega arith in
        let order = m.ordered in
        ends_meet (part_of s side k) o (omega (arith, ints, clamps, low, high)) (omega (arith, ints, clamps, low, high))

-- the first of these is not behind the last
pub parts_ordered : (s o : Ends) (side : ℕ) → IsSpan s → IsSpan (meet_of s o) → 1 ≤ side
    → part_at s side (meet_of s o).lo ≤ part_at s side (meet_of s o).hi
parts_ordered s o side h m p =
    let order = m.ordered in
    let low = gap_is s.lo (meet_of s o).lo (omega (arith, ints, clamps)) in
    let high = gap_is s.lo (meet_of s o).hi (omega (arith, ints, clamps)) in
    div-mono (int_gap s.lo (meet_of s o).lo) (int_gap s.lo (meet_of s o).hi) side (omega arith) (omega (arith, ints, clamps))

-- no part meets a span that has no number in common with the whole
pub meeting_none : (s o : Ends) (side k : ℕ) → IsSpan s → IsSpan o → 1 ≤ side → k < part_count s side → AreApart s o
    → ¬ (IsTrue (spans_meet (part_of s side k) o))
meeting_none s o side k h g p there apart t =
    let fits = part_fits s side k h p there in
    let v = common_number (part_of s side k) o fits.ordered g.ordered t in
    apart (int_max (part_of s side k).lo o.lo) (part_inside s side k (int_max (part_of s side k).lo o.lo) v.0, v.1)

-- the same, of the parts as the code finds them
pub meeting_from : (s o : Ends) (side first last : ℕ) → IsSpan s → IsSpan (meet_of s o) → 1 ≤ side → first ≡ part_at s side (meet_of s o).lo
    → last ≡ part_at s side (meet_of s o).hi
    → (k : ℕ) → k < part_count s side → IsTrue (spans_meet (part_of s side k) o) ↔ ((first ≤ k) × (k < last + 1))
meeting_from s o side first last h m p e f k there =
    subst (λ (n : ℕ). IsTrue (spans_meet (part_of s side k) o) ↔ ((n ≤ k) × (k < last + 1))) (sym e)
    (subst (λ (n : ℕ). IsTrue (spans_meet (part_of s side k) o) ↔ ((part_at s side (meet_of s o).lo ≤ k) × (k < n + 1))) (sym f)
    (meeting_parts s o side k h m p there))

pub meeting_from_none : (s o : Ends) (side : ℕ) → IsSpan s → IsSpan o → 1 ≤ side → AreApart s o → (k : ℕ) → k < part_count s side
    → IsTrue (spans_meet (part_of s side k) o) ↔ ((0 ≤ k) × (k < 0))
meeting_from_none s o side h g p apart k there =
    ((λ t. absurd (meeting_none s o side k h g p there apart t)), (λ r. let high = r.1 in absurd (omega arith)))
