-- When a formula may stand for another one in a job.
use Rattle.std.specs.Prelude.{ℤ, ◌≡◌, FitsSigned}
use Rattle.std.specs.Int.{w32}
use Rattle.job.specs.Formula.{Formula}
use Rattle.job.specs.Pipeline.{Pipeline}
use Rattle.job.specs.Reads.{EachRead}
use Rattle.job.specs.Values.{formula_value, value}
use Rattle.job.specs.WellFormed.{IsFormula, IsReadable}

-- g may stand for f in a job: wherever all that f reads has a value, so has all that g reads, and g has the value of f
pub record StandsIn (job : Pipeline) (f g : Formula) : Type 0 where
  pub formula : IsFormula f → IsFormula g
  pub reads : (r c : ℤ) → EachRead (IsReadable job.stages) f r c → EachRead (IsReadable job.stages) g r c
  pub value :
      (r c : ℤ) → IsFormula f → FitsSigned w32 r → FitsSigned w32 c → EachRead (IsReadable job.stages) f r c
      → formula_value (value job) g r c ≡ formula_value (value job) f r c
