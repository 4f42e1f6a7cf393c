-- What an accumulator accumulates in its bins.
use Rattle.std.specs.Prelude.{ℕ, ℤ, pos, negsuc, ◌+ℤ◌, List, [], map, filter, fold, slice_get}
use Rattle.std.specs.Int.{int_min, int_max}
use Rattle.std.specs.Option.{option_map_or}
use Rattle.std.specs.Ordering.{int_eq}
use Rattle.domains.specs.Arithmetic.{wrapped_long}
use Rattle.domains.specs.Span.{numbers_of}
use Rattle.domains.specs.Area.{points_of}
use Rattle.domains.specs.declared.area.Area.{Area}
use Rattle.operators.specs.declared.operator.ReductionOp.{ReductionOp}
use Rattle.operators.specs.declared.operator.ReductionOp.TheVariants.{Sum, Min, Max}
use Rattle.job.specs.Formula.{Formula}
use Rattle.job.specs.Pipeline.{Body, plane, function, accumulator, Pipeline}
use Rattle.job.specs.Values.{Valuation, formula_value, value}

-- the start of a bin, which it keeps if no point has this bin
abbrev pub start_of : ReductionOp → ℤ
start_of Sum = pos 0
start_of Min = pos 9223372036854775807
start_of Max = negsuc 9223372036854775807

-- the sum of numbers wrapped at 64 bits, or the least or the greatest of them and of the start
abbrev pub total_of : ReductionOp → List ℤ → ℤ
total_of Sum vs = wrapped_long (fold ◌+ℤ◌ (start_of Sum) vs)
total_of Min vs = fold int_min (start_of Min) vs
total_of Max vs = fold int_max (start_of Max) vs

-- the total of two lists, one after the other, by the totals of each
abbrev pub joined : ReductionOp → ℤ → ℤ → ℤ
joined Sum a b = wrapped_long (a +ℤ b)
joined Min a b = int_min a b
joined Max a b = int_max a b

-- the values at the points of an area whose bin is b, where env gives the values of the stages
abbrev pub values_in_bin : Valuation → Formula → Formula → Area → ℤ → List ℤ
values_in_bin env value bin area b =
    map (λ p. formula_value env value p.0 p.1) (filter (λ p. int_eq (formula_value env bin p.0 p.1) b) (points_of area))

-- the total of each bin, rising, over the points of an area; a point whose bin lies outside is in none
abbrev pub body_totals : Valuation → Area → Body → List ℤ
body_totals env area (accumulator way bins value bin) = map (λ b. total_of way (values_in_bin env value bin area b)) (numbers_of bins)
body_totals env area (plane n) = []
body_totals env area (function cases otherwise) = []

-- ---- the totals of a job

-- the totals of accumulator g over a part of the area that it reduces
abbrev pub totals_over : Pipeline → Area → ℕ → List ℤ
totals_over job area g = option_map_or (λ s. body_totals (value job) area s.body) (slice_get job.stages g) []

-- and over all of it
abbrev pub totals : Pipeline → ℕ → List ℤ
totals job g = option_map_or (λ s. body_totals (value job) s.domain s.body) (slice_get job.stages g) []
