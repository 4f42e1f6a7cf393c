-- The formulas of linear rows.
use Rattle.std.specs.Prelude.{◌≡◌, Bool, true, false, ◌&&◌, ℤ, pos, List, [], ◌∷◌}
use Rattle.std.specs.Ordering.{int_eq}
use Rattle.job.specs.Formula.{Formula, stencil}
use Rattle.job.specs.Views.{formula_view}
use Rattle.linear_rows.specs.declared.linear_means.LinearMean.{LinearMean}
use Rattle.linear_rows.specs.declared.linear_rows.LinearRow.{LinearRow}
use Rattle.linear_rows.specs.declared.linear_rows.LinearRow.TheVariants.{Quotient, Mean}

-- a kernel of three rows of three factors, each of which is 1
abbrev pub is_row_of_ones : List ℤ → Bool
is_row_of_ones (x ∷ y ∷ z ∷ []) = int_eq x (pos 1) && int_eq y (pos 1) && int_eq z (pos 1)
is_row_of_ones xs = false

abbrev pub is_kernel_of_ones : List (List ℤ) → Bool
is_kernel_of_ones (x ∷ y ∷ z ∷ []) = is_row_of_ones x && is_row_of_ones y && is_row_of_ones z
is_kernel_of_ones rows = false

abbrev pub mean_formula : LinearMean → Formula
mean_formula mean = stencil mean.stage 9 mean.kernel.now

abbrev pub linear_formula : LinearRow → Formula
linear_formula (Quotient quotient) = formula_view quotient.formula.now
linear_formula (Mean mean) = mean_formula mean

-- the kernel of a mean is that of nine factors that are 1
abbrev pub IsRightMean : LinearMean → Type 0
IsRightMean mean = is_kernel_of_ones mean.kernel.now ≡ true

abbrev pub IsRightLinear : LinearRow → Type 0
IsRightLinear (Quotient quotient) = Unit {0}
IsRightLinear (Mean mean) = IsRightMean mean
