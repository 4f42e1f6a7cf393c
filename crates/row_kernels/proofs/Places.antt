-- Where the points of an area stand among its values.
use Rattle.std.proofs.Common.{arith, ℕ, ℤ, ◌≡◌, ◌+◌, ◌-◌, ◌<◌, ◌≤◌, pos, ◌+ℤ◌, ◌≤ℤ◌, ap, ◌∙◌, sym, subst}
use Rattle.std.specs.Int.{int_gap}
use Rattle.std.proofs.Math.IntN.{+ℤ_idr}
use Rattle.std.proofs.lemmas.Int.{ints}
use Rattle.std.proofs.lemmas.Nat.{mul-add-lt}
use Rattle.domains.specs.Index.{Scale, index_at}
use Rattle.domains.specs.Span.{Ends, Holds, len_of}
use Rattle.domains.specs.Area.{HoldsPoint, point_count}
use Rattle.domains.specs.declared.area.Area.{Area}
use Rattle.domains.proofs.Lengths.{gap_is}
use Rattle.row_loops.specs.Rows.{EachPlace}
use Rattle.row_kernels.specs.Places.{place_of}

-- a number of a span lies less far after its first number than the span is long
pub gap_below : (s : Ends) (v : ℤ) → Holds s v → int_gap s.lo v < len_of s
gap_below s v h =
    let low = h.0 in let high = h.1 in
    omega (arith, ints, gap_is s.lo v low, gap_is s.lo (s.hi +ℤ pos 1) (omega (arith, ints)))

-- the place of a point is one of the places of the values
pub place_below : (a : Area) (r c : ℤ) → HoldsPoint a r c → place_of a r c < point_count a
place_below a r c h =
    let split =
    mul-add-lt (int_gap a.rows.lo r) (len_of a.cols) (int_gap a.cols.lo c) (len_of a.rows) (gap_below a.rows r h.0)
    (gap_below a.cols c h.1) in
    omega arith

-- the places of a row follow one another
pub place_along : (a : Area) (r c : ℤ) (k : ℕ) → a.cols.lo ≤ℤ c → place_of a r (c +ℤ pos k) ≡ place_of a r c + k
place_along a r c k low =
    let far : int_gap a.cols.lo (c +ℤ pos k) ≡ int_gap a.cols.lo c + k =
    omega (arith, ints, gap_is a.cols.lo c low, gap_is a.cols.lo (c +ℤ pos k) (omega (arith, ints))) in
    omega arith

-- the places at the columns of an index lie as far from the first as these columns
pub place_goes : (a : Area) (r : ℤ) (x : Scale) (c : ℤ) (far : ℕ → ℕ) (n place : ℕ)
    → ((k : ℕ) → index_at x (c +ℤ pos k) ≡ index_at x c +ℤ pos (far k)) → place ≡ place_of a r (index_at x c)
    → EachPlace n (λ k. HoldsPoint a r (index_at x (c +ℤ pos k))) → (k : ℕ) → k < n
    → place + far k ≡ place_of a r (index_at x (c +ℤ pos k))
place_goes a r x c far n place goes is each k l =
    let some : 0 < n = omega arith in
    let low : a.cols.lo ≤ℤ index_at x c = subst (λ (z : ℤ). a.cols.lo ≤ℤ index_at x z) (+ℤ_idr c) (each 0 some).1.0 in
    ap (λ (p : ℕ). p + far k) is ∙ sym (place_along a r (index_at x c) (far k) low) ∙ ap (place_of a r) (sym (goes k))

-- and are places of the values
pub places_below : (a : Area) (r : ℤ) (x : Scale) (c : ℤ) (far : ℕ → ℕ) (n place size : ℕ)
    → ((k : ℕ) → index_at x (c +ℤ pos k) ≡ index_at x c +ℤ pos (far k)) → place ≡ place_of a r (index_at x c) → size ≡ point_count a
    → EachPlace n (λ k. HoldsPoint a r (index_at x (c +ℤ pos k))) → (k : ℕ) → k < n → place + far k < size
places_below a r x c far n place size goes is whole each k l =
    omega (arith, whole, place_goes a r x c far n place goes is each k l, place_below a r (index_at x (c +ℤ pos k)) (each k l))

-- ---- a row of points of an area

-- its first point
pub first_there : (a : Area) (r c : ℤ) (n : ℕ) → 0 < n → EachPlace n (λ k. HoldsPoint a r (c +ℤ pos k)) → HoldsPoint a r c
first_there a r c n some h =
    let first = h 0 some in let low = first.1.0 in let high = first.1.1 in
    (first.0, (omega (arith, ints), omega (arith, ints)))

-- its values stand among those of the area
pub row_within : (a : Area) (r c : ℤ) (n : ℕ) → 0 < n → EachPlace n (λ k. HoldsPoint a r (c +ℤ pos k)) → place_of a r c + n ≤ point_count a
row_within a r c n some h =
    let first = first_there a r c n some h in
    let short : n - 1 < n = omega arith in
    omega (arith, place_along a r c (n - 1) first.1.0, place_below a r (c +ℤ pos (n - 1)) (h (n - 1) short))
