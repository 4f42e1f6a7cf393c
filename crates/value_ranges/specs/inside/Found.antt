-- What is found of formulas and of functions.
use Rattle.std.specs.Prelude.{ℕ, ℤ, pos, ◌≡◌, ◌≤ℤ◌, ◌<◌, true, Option, List, length, FitsSigned, All}
use Rattle.std.specs.Int.{w32}
use Rattle.std.specs.Option.{ForSome, IfNone}
use Rattle.job.specs.Formula.{Formula}
use Rattle.job.specs.Pipeline.{JobCase, Pipeline}
use Rattle.job.specs.Values.{Valuation, factors, kernel_row, kernel_column, formula_value}
use Rattle.job.specs.Reads.{EachRead}
use Rattle.job.specs.WellFormed.{IsFormula}
use Rattle.value_ranges.specs.declared.value_range.ValueRange.{ValueRange}
use Rattle.value_ranges.specs.declared.formulas.FoundRange.{FoundRange}
use Rattle.value_ranges.specs.Narrow.{IsNarrow}
use Rattle.value_ranges.specs.Ranges.{InRange, AreRanges, range_at}

-- a pair of ends with a number between them
pub record IsBetween (ends : ℤ × ℤ) (v : ℤ) : Type 0 where
  pub low : ends.0 ≤ℤ v
  pub high : v ≤ℤ ends.1

-- the numbers under a kernel lie in a range
abbrev pub AreUnderKernel : ValueRange → List (List ℤ) → (ℤ → ℤ → ℤ) → ℤ → ℤ → Type 0
AreUnderKernel range kernel f r c =
    (a b : ℕ) → a < length kernel → b < length (factors kernel a) → InRange range (f (kernel_row kernel r a) (kernel_column kernel c b))

-- a number that is read lies in the range of its stage
pub record IsRanged (ranges : List ValueRange) (env : Valuation) (g : ℕ) (r c : ℤ) : Type 0 where
  pub ranged : InRange (range_at ranges g) (env g r c)
  pub fits : FitsSigned w32 (env g r c)

-- all that a formula reads at a point lies in the ranges
pub record IsRangedAt (ranges : List ValueRange) (env : Valuation) (f : Formula) (r c : ℤ) : Type 0 where
  pub formula : IsFormula f
  pub row : FitsSigned w32 r
  pub column : FitsSigned w32 c
  pub reads : EachRead (IsRanged ranges env) f r c

-- what is found of a formula holds of it wherever all that it reads lies in the ranges
pub record IsFound (ranges : List ValueRange) (f : Formula) (found : FoundRange) : Type 0 where
  pub value : (env : Valuation) (r c : ℤ) → IsRangedAt ranges env f r c → InRange found.range (formula_value env f r c)
  pub narrow : found.narrow ≡ true → (env : Valuation) (r c : ℤ) → IsRangedAt ranges env f r c → IsNarrow env f r c

-- what holds by the one also holds by the other
pub record IsWider (one other : FoundRange) : Type 0 where
  pub range : (v : ℤ) → InRange one.range v → InRange other.range v
  pub narrow : other.narrow ≡ true → one.narrow ≡ true

-- it is found of a case
pub record IsFoundCase (ranges : List ValueRange) (p : JobCase) (found : FoundRange) : Type 0 where
  pub formula : IsFound ranges p.formula found

-- it is found of what holds where no case does: of 0 where nothing is written
pub record IsFoundElsewhere (ranges : List ValueRange) (otherwise : Option Formula) (found : FoundRange) : Type 0 where
  pub formula : ForSome otherwise (λ f. IsFound ranges f found)
  pub none : IfNone otherwise (InRange found.range (pos 0))

-- it is found of a whole function
pub record IsFoundFunction (ranges : List ValueRange) (cases : List JobCase) (otherwise : Option Formula) (found : FoundRange) : Type 0 where
  pub each : All (λ p. IsFoundCase ranges p found) cases
  pub other : IsFoundElsewhere ranges otherwise found

-- the ranges of stages that were found up to now
pub record AreKnown (job : Pipeline) (ranges : List ValueRange) : Type 0 where
  pub each : AreRanges job ranges
