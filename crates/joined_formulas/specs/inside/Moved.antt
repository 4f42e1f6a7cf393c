-- Formulas at other points.
use Rattle.std.specs.Prelude.{ℤ, List, ◌≡◌}
use Rattle.domains.specs.Index.{Scale, IsIndex, index_at}
use Rattle.job.specs.Formula.{Formula}
use Rattle.job.specs.Pipeline.{Stage}
use Rattle.job.specs.Reads.{EachRead}
use Rattle.job.specs.Values.{Valuation, formula_value}
use Rattle.job.specs.WellFormed.{IsFormula, IsReadable}

-- g is at a point what f is at the point of its indices
pub record IsAt (i j : Scale) (f g : Formula) : Type 0 where
  pub formula : IsIndex i → IsIndex j → IsFormula f → IsFormula g
  pub reads : (stages : List Stage) (r c : ℤ) → EachRead (IsReadable stages) f (index_at i r) (index_at j c) → EachRead (IsReadable stages) g r c
  pub value : (env : Valuation) (r c : ℤ) → formula_value env g r c ≡ formula_value env f (index_at i r) (index_at j c)
