-- Totals over rows, and over rows that follow, join to the totals over all of them.
use Rattle.std.proofs.Common.{ℕ, ◌+◌, ◌≡◌, ℤ, pos, ◌+ℤ◌, ◌-ℤ◌, arith, sym, ap, ◌∙◌, List, [], ◌++◌, Some, slice_get}
use Rattle.std.specs.Prelude.{Option, filter, map}
use Rattle.std.specs.Int.{int_gap}
use Rattle.std.specs.List.{flat_map}
use Rattle.std.specs.Option.{option_map_or}
use Rattle.std.specs.Ordering.{int_eq}
use Rattle.std.proofs.lemmas.Grind.{flat_map-append}
use Rattle.std.proofs.lemmas.Int.{ints}
use Rattle.domains.proofs.Lengths.{gap_is, len_is}
use Rattle.domains.specs.Area.{points_of}
use Rattle.domains.specs.Span.{Ends, IsSpan, len_of, numbers_from, numbers_of}
use Rattle.domains.specs.declared.area.Area.{Area}
use Rattle.operators.specs.declared.operator.ReductionOp.{ReductionOp}
use Rattle.job.proofs.TotalLaws.{map_same}
use Rattle.job.specs.Formula.{Formula}
use Rattle.job.specs.Pipeline.{accumulator, Stage, Pipeline}
use Rattle.job.specs.Totals.{joined, total_of, values_in_bin, body_totals, totals_over}
use Rattle.job.specs.Values.{Valuation, formula_value, value}
use Rattle.reductions.proofs.JoinInto.{joined_maps}
use Rattle.reductions.proofs.TakeValues.{numbers_split}
use Rattle.reductions.proofs.TotalsInAnyOrder.{total_among-append}
use Rattle.reductions.specs.Bins.{joined_bins}
use Rattle.row_totals.specs.RowTotals.{rows_from, totals_from}

-- ---- rows, and rows that follow

-- n rows have n numbers
rows_long : (lo : ℤ) (n : ℕ) → int_gap lo (lo +ℤ pos n -ℤ pos 1 +ℤ pos 1) ≡ n
rows_long lo n =
    let gap = gap_is lo (lo +ℤ pos n -ℤ pos 1 +ℤ pos 1) (omega (arith, ints)) in omega (arith, ints, gap)

pub rows_numbers : (area : Area) (first n : ℕ) → numbers_of (rows_from area first n).rows ≡ numbers_from (area.rows.lo +ℤ pos first) n
rows_numbers area first n = ap (numbers_from (area.rows.lo +ℤ pos first)) (rows_long (area.rows.lo +ℤ pos first) n)

points_split : (area : Area) (first n m : ℕ)
    → points_of (rows_from area first (n + m)) ≡ points_of (rows_from area first n) ++ points_of (rows_from area (first + n) m)
points_split area first n m =
    let lo = area.rows.lo +ℤ pos first in
    let cols = numbers_of area.cols in
    let line : ℤ → List (ℤ × ℤ) = λ r. map (λ c. (r, c)) cols in
    let same : lo +ℤ pos n ≡ area.rows.lo +ℤ pos (first + n) = omega (arith, ints) in
    ap (flat_map line) (rows_numbers area first (n + m) ∙ numbers_split lo n m)
    ∙ flat_map-append line (numbers_from lo n) (numbers_from (lo +ℤ pos n) m)
    ∙ (λ i. flat_map line (sym (rows_numbers area first n) i)
    ++ flat_map line ((ap (λ (v : ℤ). numbers_from v m) same ∙ sym (rows_numbers area (first + n) m)) i))

-- ---- their totals

module _ (env : Valuation) (area : Area) (first n m : ℕ) (way : ReductionOp) (bins : Ends) (v bin : Formula) where
  abbrev over : Area → ℤ → ℤ
  over a b = total_of way (values_in_bin env v bin a b)

  bin_splits : (b : ℤ)
      → over (rows_from area first (n + m)) b ≡ joined way (over (rows_from area first n) b) (over (rows_from area (first + n) m) b)
  bin_splits b =
      let value : ℤ × ℤ → ℤ = λ p. formula_value env v p.0 p.1 in
      let test = λ (p : ℤ × ℤ). int_eq (formula_value env bin p.0 p.1) b in
      ap (λ (ps : List (ℤ × ℤ)). total_of way (map value (filter test ps))) (points_split area first n m)
      ∙ total_among-append way value test (points_of (rows_from area first n)) (points_of (rows_from area (first + n) m))

  pub body_splits : body_totals env (rows_from area first (n + m)) (accumulator way bins v bin)
      ≡ joined_bins way (body_totals env (rows_from area first n) (accumulator way bins v bin))
      (body_totals env (rows_from area (first + n) m) (accumulator way bins v bin))
  body_splits =
      map_same (over (rows_from area first (n + m)))
      (λ b. joined way (over (rows_from area first n) b) (over (rows_from area (first + n) m) b)) (numbers_of bins) bin_splits
      ∙ sym (joined_maps way (over (rows_from area first n)) (over (rows_from area (first + n) m)) (numbers_of bins))

-- the totals over rows are those of the stage's body
pub totals_from_is : (job : Pipeline) (g : ℕ) (s : Stage) (first n : ℕ) → slice_get job.stages g ≡ Some s
    → totals_from job g first n ≡ body_totals (value job) (rows_from s.domain first n) s.body
totals_from_is job g s first n there =
    ap (λ (o : Option Stage). option_map_or (λ t. totals_over job (rows_from t.domain first n) g) o []) there
    ∙ ap (λ (o : Option Stage). option_map_or (λ t. body_totals (value job) (rows_from s.domain first n) t.body) o []) there

-- totals over n rows and over m that follow are joined to those over all of them
pub rows_join : (job : Pipeline) (g : ℕ) (s : Stage) (first n m : ℕ) (way : ReductionOp) (bins : Ends) (v bin : Formula)
    → slice_get job.stages g ≡ Some s → s.body ≡ accumulator way bins v bin
    → totals_from job g first (n + m) ≡ joined_bins way (totals_from job g first n) (totals_from job g (first + n) m)
rows_join job g s first n m way bins v bin there is =
    let at : (f k : ℕ) → totals_from job g f k ≡ body_totals (value job) (rows_from s.domain f k) (accumulator way bins v bin) =
    λ f k. totals_from_is job g s f k there ∙ ap (body_totals (value job) (rows_from s.domain f k)) is in
    at first (n + m)
    ∙ body_splits (value job) s.domain first n m way bins v bin
    ∙ (λ i. joined_bins way (sym (at first n) i) (sym (at (first + n) m) i))

-- all rows of an area
pub all_rows : (area : Area) → IsSpan area.rows → rows_from area 0 (len_of area.rows) ≡ area
all_rows area is =
    let long = len_is area.rows is in
    let lo : area.rows.lo +ℤ pos 0 ≡ area.rows.lo = omega (arith, ints) in
    let hi : area.rows.lo +ℤ pos 0 +ℤ pos (len_of area.rows) -ℤ pos 1 ≡ area.rows.hi = omega (arith, ints, long) in
    λ i. record { rows = record { lo = lo i; hi = hi i }; cols = area.cols }
