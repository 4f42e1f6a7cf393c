-- The formulas of cases in memory are those of the cases that contracts see.
use Rattle.std.specs.Prelude.{◌≡◌, List, map}
use Rattle.std.proofs.lemmas.Simd.{map-map}
use Rattle.job.specs.declared.stage.JobCase.{JobCase as KeptCase}
use Rattle.job.specs.Pipeline.{JobCase}
use Rattle.job.specs.Views.{formula_view, case_view}

pub formulas_of_cases : (ps : List KeptCase) → map (λ (p : JobCase). p.formula) (map case_view ps) ≡ map (λ (p : KeptCase). formula_view p.formula) ps
formulas_of_cases ps = map-map (λ (p : JobCase). p.formula) case_view ps
