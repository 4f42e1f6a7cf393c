-- Parts of formulas that a stage has.
use Rattle.std.specs.Prelude.{ℤ, List, ◌≡◌}
use Rattle.domains.specs.Index.{Scale, IsIndex, index_at}
use Rattle.job.specs.Formula.{Formula, read}
use Rattle.job.specs.Pipeline.{Stage}
use Rattle.job.specs.Reads.{EachRead}
use Rattle.job.specs.Values.{Valuation, formula_value}
use Rattle.job.specs.Views.{formula_view}
use Rattle.job.specs.WellFormed.{IsReadable}
use Rattle.joined_formulas.specs.declared.known.StageFormula.{StageFormula}

-- g is at a point what f is at the point of its indices, where all that f reads has a value if all that g reads has one
pub record IsPartAt (i j : Scale) (f g : Formula) : Type 0 where
  pub reads : (stages : List Stage) (r c : ℤ) → EachRead (IsReadable stages) g r c → EachRead (IsReadable stages) f (index_at i r) (index_at j c)
  pub value : (env : Valuation) (r c : ℤ) → formula_value env g r c ≡ formula_value env f (index_at i r) (index_at j c)

-- g reads the stage where its formula is f
pub record IsPartRead (known : StageFormula) (f g : Formula) : Type 0 where
  pub row : Scale
  pub column : Scale
  pub row_index : IsIndex row
  pub column_index : IsIndex column
  pub at : IsPartAt row column (formula_view known.formula) f
  pub is : g ≡ read known.stage row column
