use Rattle.std.proofs.Common.{◌<◌, ◌*ℤ◌, ℕ, ℤ, pos, length}
use Rattle.std.specs.Prelude.{slice_index_or}
use Rattle.job.specs.Values.{factors, sum_below}
use Rattle.value_ranges.specs.Ranges.{InRange}
use Rattle.value_ranges.specs.inside.Found.{IsBetween}
use Rattle.value_ranges.proofs.kernels.find_value_range_sum_ends_of_kernel.Given as goal

abbrev pub invariant-loop-factors : goal.invariant-loop-factors
invariant-loop-factors l =
    (f : ℕ → ℕ → ℤ) → ((a b : ℕ) → a < l.factors-index → b < length (factors l.kernel a) → InRange l.fn.range (f a b))
    → IsBetween (l.least, l.greatest) (sum_below l.factors-index (λ a. sum_below (length (factors l.kernel a))
    (λ b. slice_index_or (factors l.kernel a) b (pos 0) *ℤ f a b)))
