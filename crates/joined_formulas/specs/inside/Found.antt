-- What is found of a stage among what is known.
use Rattle.std.specs.Prelude.{ℕ, ℤ, ◌≡◌, List, Contains}
use Rattle.domains.specs.Index.{Scale, index_at}
use Rattle.job.specs.Formula.{Formula, read}
use Rattle.job.specs.Views.{formula_view}
use Rattle.joined_formulas.specs.declared.known.StageFormula.{StageFormula}

-- the formula that is known of this stage
pub record IsFound (known : List StageFormula) (stage : ℕ) (f : Formula) : Type 0 where
  pub entry : StageFormula
  pub there : Contains known entry
  pub of : entry.stage ≡ stage
  pub is : formula_view entry.formula ≡ f

-- this stage is known to be a copy of another one, its source
pub record IsSource (known : List StageFormula) (stage source : ℕ) : Type 0 where
  pub row : Scale
  pub column : Scale
  pub found : IsFound known stage (read source row column)
  pub own_row : (v : ℤ) → index_at row v ≡ v
  pub own_column : (v : ℤ) → index_at column v ≡ v
