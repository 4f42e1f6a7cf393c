-- How bins accumulate points.
use Rattle.std.specs.Prelude.{ℕ, ℤ, pos, ◌+ℤ◌, ◌≡◌, ◌≤ℤ◌, ◌<ℤ◌, Bool, if◌then◌else◌, List, map, filter, fold, length, zip}
use Rattle.std.specs.Ordering.{int_eq}
use Rattle.domains.specs.Pairs.{pairs}
use Rattle.domains.specs.Span.{numbers_from}
use Rattle.operators.specs.declared.operator.ReductionOp.{ReductionOp}
use Rattle.job.specs.Formula.{Formula}
use Rattle.job.specs.Totals.{joined}
use Rattle.job.specs.Values.{Valuation, formula_value}
use Rattle.tile_eval.specs.Rows.{EachPlace, at}

-- the content of a bin after a value, if the value is of this bin
abbrev pub once_came : ReductionOp → Bool → ℤ → ℤ → ℤ
once_came way here total v = if here then joined way total v else total

-- the content of a bin after values, accumulated one after the other
abbrev pub after_values : ReductionOp → ℤ → List ℤ → ℤ
after_values way total vs = fold (joined way) total vs

-- bin b is one of n bins from lo on
abbrev pub IsAmongBins : ℤ → ℕ → ℤ → Type 0
IsAmongBins lo n b = (lo ≤ℤ b) × (b <ℤ (lo +ℤ pos n))

-- those of a row of values that are of bin b, where a second row has the bin of each
abbrev pub values_of_bin : List ℤ → List ℤ → ℤ → List ℤ
values_of_bin values bins b = map (λ p. p.0) (filter (λ p. int_eq p.1 b) (zip values bins))

-- the values at some points that are of bin b, where `value` and `bin` have the value and the bin of each point
abbrev pub values_among : (ℤ → ℤ → ℤ) → (ℤ → ℤ → ℤ) → List (ℤ × ℤ) → ℤ → List ℤ
values_among value bin points b = map (λ p. value p.0 p.1) (filter (λ p. int_eq (bin p.0 p.1) b) points)

-- n points of row r, from column c on
abbrev pub points_along : ℤ → ℤ → ℕ → List (ℤ × ℤ)
points_along r c n = map (λ v. (r, v)) (numbers_from c n)

-- m rows of n points, from row r and column c on
abbrev pub points_from : ℤ → ℕ → ℤ → ℕ → List (ℤ × ℤ)
points_from r m c n = pairs (numbers_from r m) (numbers_from c n)

-- the values of a formula at n points of row r, from column c on, where env has the values of the stages
abbrev pub values_along : Valuation → Formula → ℤ → ℤ → ℕ → List ℤ
values_along env f r c n = map (formula_value env f r) (numbers_from c n)

-- each bin, from lo on, accumulated its values at these points
abbrev pub TookIn : ReductionOp → (ℤ → ℤ → ℤ) → (ℤ → ℤ → ℤ) → ℤ → List (ℤ × ℤ) → List ℤ → List ℤ → Type 0
TookIn way value bin lo points old new =
    EachPlace (length old) (λ j. at new j ≡ after_values way (at old j) (values_among value bin points (lo +ℤ pos j)))
