-- Sums of clamped differences of the numbers of two lines, each times a factor.
use Rattle.std.specs.Prelude.{ℕ, ℤ, pos, ◌≡◌, ◌+ℤ◌, ◌-ℤ◌, ◌*ℤ◌, List, [], ◌∷◌, All, length}
use Rattle.std.specs.Int.{w16, int_wrap}
use Rattle.domains.specs.Arithmetic.{clamped}
use Rattle.row_loops.specs.Rows.{at}
use Rattle.narrow_kernels.specs.declared.narrow_differences.NarrowClampedDifference.{NarrowClampedDifference}

-- at place k: the right line's number is subtracted from the left one's, and the result clamped and then multiplied
abbrev pub narrow_difference_at : NarrowClampedDifference → ℕ → ℤ
narrow_difference_at d k = d.factor *ℤ clamped (int_wrap w16 (at d.left.now k -ℤ at d.right.now k)) d.low d.high

-- those of a list, added up exactly
abbrev pub narrow_difference_sum : List NarrowClampedDifference → ℕ → ℤ
narrow_difference_sum [] k = pos 0
narrow_difference_sum (d ∷ ds) k = narrow_difference_at d k +ℤ narrow_difference_sum ds k

-- each line has n numbers
abbrev pub HaveDifferenceLines : ℕ → List NarrowClampedDifference → Type 0
HaveDifferenceLines n ds = All (λ d. (length d.left.now ≡ n) × (length d.right.now ≡ n)) ds
