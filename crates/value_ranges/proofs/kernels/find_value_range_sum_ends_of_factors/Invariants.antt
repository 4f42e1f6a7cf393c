use Rattle.std.proofs.Common.{◌<◌, ◌*ℤ◌, ℕ, ℤ, pos}
use Rattle.std.specs.Prelude.{slice_index_or}
use Rattle.job.specs.Values.{sum_below}
use Rattle.value_ranges.specs.Ranges.{InRange}
use Rattle.value_ranges.specs.inside.Found.{IsBetween}
use Rattle.value_ranges.proofs.kernels.find_value_range_sum_ends_of_factors.Given as goal

abbrev pub invariant-loop-factor : goal.invariant-loop-factor
invariant-loop-factor l =
    (f : ℕ → ℤ) → ((b : ℕ) → b < l.factor-index → InRange l.fn.range (f b))
    → IsBetween (l.least, l.greatest) (sum_below l.factor-index (λ b. slice_index_or l.factors b (pos 0) *ℤ f b))
