-- Formulas in which reads of stages became the formulas of these stages.
use Rattle.std.specs.Prelude.{ℕ, ℤ, ◌≡◌, true, List, All}
use Rattle.job.specs.Formula.{Formula}
use Rattle.job.specs.Pipeline.{Pipeline}
use Rattle.job.specs.Reads.{EachRead}
use Rattle.job.specs.Values.{formula_value, value}
use Rattle.job.specs.Views.{formula_view}
use Rattle.job.specs.WellFormed.{IsFormula, IsJob, IsReadable}
use Rattle.joined_formulas.specs.StandsIn.{StandsIn}
use Rattle.joined_formulas.specs.declared.known.StageFormula.{StageFormula}

-- at each point of stage g a formula has its value, and all that it reads there has a value
pub record IsFormulaOf (job : Pipeline) (g : ℕ) (f : Formula) : Type 0 where
  pub formula : IsFormula f
  pub reads : (r c : ℤ) → IsReadable job.stages g r c → EachRead (IsReadable job.stages) f r c
  pub value : (r c : ℤ) → IsReadable job.stages g r c → formula_value (value job) f r c ≡ value job g r c

-- stage g has a value wherever all that a formula reads has one
abbrev pub IsWhole : Pipeline → ℕ → Formula → Type 0
IsWhole job g f = (r c : ℤ) → EachRead (IsReadable job.stages) f r c → IsReadable job.stages g r c

-- what is known of the stages of a job
pub record IsKnown (job : Pipeline) (k : StageFormula) : Type 0 where
  pub formula : IsFormulaOf job k.stage (formula_view k.formula)
  pub whole : k.whole ≡ true → IsWhole job k.stage (formula_view k.formula)

abbrev pub AreFormulasOf : Pipeline → List StageFormula → Type 0
AreFormulasOf job known = All (IsKnown job) known

-- g may stand for f in each job of whose stages this is known
pub record Joins (known : List StageFormula) (f g : Formula) : Type 0 where
  pub stands : (job : Pipeline) → IsJob job → AreFormulasOf job known → StandsIn job f g
