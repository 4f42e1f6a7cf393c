-- What contracts see of a case in memory.
use Rattle.std.specs.Prelude.{map}
use Rattle.job.specs.declared.stage.JobCase.{JobCase as KeptCase}
use Rattle.operators.specs.Views.{test_view}
use Rattle.job.specs.Pipeline.{JobCase}
use Rattle.job.specs.FormulaViews.{formula_view}

abbrev pub case_view : KeptCase → JobCase
case_view p = record { box = p.area; tests = map test_view p.tests.items; formula = formula_view p.formula }
