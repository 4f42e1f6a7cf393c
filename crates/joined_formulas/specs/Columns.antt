-- Stages that are known to hold the sums down the columns of another one.
use Rattle.std.specs.Prelude.{ℕ, ℤ, ◌≡◌, true, List, [], ◌∷◌, Contains, map}
use Rattle.job.specs.Formula.{Formula, stencil}
use Rattle.job.specs.Views.{formula_view}
use Rattle.joined_formulas.specs.declared.known.StageFormula.{StageFormula}

-- a column of factors as a kernel: one factor a row
abbrev pub column_kernel : List ℤ → List (List ℤ)
column_kernel down = map (λ factor. factor ∷ []) down

-- the sums down the columns of a stage
abbrev pub column_formula : ℕ → List ℤ → Formula
column_formula source down = stencil source 1 (column_kernel down)

-- stage v is known to have these sums, wherever all that they take has a value
pub record IsColumn (known : List StageFormula) (source : ℕ) (down : List ℤ) (v : ℕ) : Type 0 where
  pub entry : StageFormula
  pub there : Contains known entry
  pub of : entry.stage ≡ v
  pub whole : entry.whole ≡ true
  pub is : formula_view entry.formula ≡ column_formula source down
