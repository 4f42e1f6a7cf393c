-- Rows of areas.
use Rattle.std.proofs.Common.{arith, ℕ, ℤ, pos, ◌≡◌, ◌*◌, ◌-◌, ◌<◌, ◌≤◌, ◌+ℤ◌, ◌-ℤ◌, List, ap, ◌∙◌, sym}
use Rattle.std.specs.Int.{int_gap}
use Rattle.std.proofs.lemmas.Int.{ints}
use Rattle.domains.proofs.Lengths.{len_is}
use Rattle.domains.specs.Area.{HoldsPoint}
use Rattle.domains.specs.Span.{Ends, Holds, IsSpan, len_of}
use Rattle.domains.specs.declared.area.Area.{Area}
use Rattle.row_loops.specs.Rows.{EachPlace, at}
use Rattle.tile_eval.specs.Raster.{place_of, raster}
use Rattle.tile_eval.proofs.Rasters.{nth_held, raster_at}
use Rattle.row_rings.specs.inside.Making.{row_area}
use Rattle.row_rings.proofs.Places.{gap_none, gap_nth}

-- how many numbers a span has
pub span_short : (s : Ends) → IsSpan s → len_of s ≤ 2097153
span_short s h = let least = h.least in let most = h.most in omega (arith, ints, len_is s h)

-- the numbers from 0 to n - 1
pub side : (n : ℕ) → int_gap (pos 0) (pos n -ℤ pos 1 +ℤ pos 1) ≡ n
side n =
    let end : pos n -ℤ pos 1 +ℤ pos 1 ≡ pos n = omega (arith, ints) in
    let count : n - 0 ≡ n = omega arith in
    ap (int_gap (pos 0)) end ∙ count

held_alone : (r : ℤ) → Holds (record { lo = r; hi = r }) r
held_alone r = (omega (arith, ints), omega (arith, ints))

pub row_held : (area : Area) (r : ℤ) (k : ℕ) → k < len_of area.cols → HoldsPoint (row_area area r) r (area.cols.lo +ℤ pos k)
row_held area r k h = (held_alone r, nth_held area.cols k h)

-- and of an area that is one row
pub only_row_held : (area : Area) (k : ℕ) → area.rows.hi ≡ area.rows.lo → k < len_of area.cols
    → HoldsPoint area area.rows.lo (area.cols.lo +ℤ pos k)
only_row_held area k one h = ((omega (arith, ints), omega (arith, ints, one)), nth_held area.cols k h)

row_place : (area : Area) (r : ℤ) (k : ℕ) → place_of (row_area area r) r (area.cols.lo +ℤ pos k) ≡ k
row_place area r k =
    let none : int_gap r r * len_of area.cols ≡ 0 * len_of area.cols = ap (λ n. n * len_of area.cols) (gap_none r) in
    omega (arith, none, gap_nth area.cols.lo k)

-- the values of a row alone
pub raster_row : (area own : Area) (f : ℤ → ℤ → ℤ) (r : ℤ) (line : List ℤ) → own ≡ row_area area r → line ≡ raster own f
    → EachPlace (len_of area.cols) (λ k. at line k ≡ f r (area.cols.lo +ℤ pos k))
raster_row area own f r line is same k h =
    ap (λ (xs : List ℤ). at xs k) (same ∙ ap (λ (a : Area). raster a f) is)
    ∙ ap (at (raster (row_area area r) f)) (sym (row_place area r k))
    ∙ raster_at (row_area area r) f r (area.cols.lo +ℤ pos k) (row_held area r k h)
