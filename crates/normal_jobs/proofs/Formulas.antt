-- The formulas of stages that stand for others.
use Rattle.std.proofs.Common.{List, [], ◌∷◌, Option, Some, None, map}
use Rattle.std.specs.Prelude.{All}
use Rattle.std.specs.List.{AllZip}
use Rattle.std.proofs.lemmas.List.Elements.{All-nil, All-cons, All-head, All-tail}
use Rattle.job.specs.Formula.{Formula}
use Rattle.job.specs.Pipeline.{JobCase, Body, plane, function, accumulator, Pipeline}
use Rattle.job.specs.Reads.{other_formula, formulas_of}
use Rattle.job.specs.WellFormed.{IsFormula, IsJob}
use Rattle.joined_formulas.specs.Joins.{AreFormulasOf, Joins}
use Rattle.joined_formulas.specs.declared.known.StageFormula.{StageFormula}
use Rattle.normal_jobs.specs.StandIns.{StandsForCase, StandsForOther, StandsForBody}
use Rattle.normal_jobs.proofs.Zipped.{zip_append}

module _ (known : List StageFormula) where
  formulas_of_cases : (ps qs : List JobCase) → AllZip (StandsForCase known) ps qs
      → AllZip (Joins known) (map (λ p. p.formula) ps) (map (λ p. p.formula) qs)
  formulas_of_cases [] [] z = tt
  formulas_of_cases [] (q ∷ qs) z = absurd z
  formulas_of_cases (p ∷ ps) [] z = absurd z
  formulas_of_cases (p ∷ ps) (q ∷ qs) z = (z.0.formula, formulas_of_cases ps qs z.1)

  formulas_of_other : (o u : Option Formula) → StandsForOther known o u → AllZip (Joins known) (other_formula o) (other_formula u)
  formulas_of_other None None z = tt
  formulas_of_other None (Some g) z = absurd z
  formulas_of_other (Some f) None z = absurd z
  formulas_of_other (Some f) (Some g) z = (z, tt)

  pub formulas_stand : (b d : Body) → StandsForBody known b d → AllZip (Joins known) (formulas_of b) (formulas_of d)
  formulas_stand (plane n) (plane m) z = tt
  formulas_stand (plane n) (function others other) z = absurd z
  formulas_stand (plane n) (accumulator other ends amount place) z = absurd z
  formulas_stand (function cases otherwise) (plane m) z = absurd z
  formulas_stand (function cases otherwise) (function others other) z =
      zip_append (Joins known) (map (λ p. p.formula) cases) (map (λ p. p.formula) others) (other_formula otherwise) (other_formula other)
      (formulas_of_cases cases others z.0) (formulas_of_other otherwise other z.1)
  formulas_stand (function cases otherwise) (accumulator other ends amount place) z = absurd z
  formulas_stand (accumulator fold bins value bin) (plane m) z = absurd z
  formulas_stand (accumulator fold bins value bin) (function others other) z = absurd z
  formulas_stand (accumulator fold bins value bin) (accumulator other ends amount place) z = (z.amounts, (z.places, tt))

  module _ (job : Pipeline) (whole : IsJob job) (of : AreFormulasOf job known) where
    pub formulas_stay : (fs gs : List Formula) → AllZip (Joins known) fs gs → All IsFormula fs → All IsFormula gs
    formulas_stay [] [] z is = All-nil IsFormula
    formulas_stay [] (g ∷ gs) z is = absurd z
    formulas_stay (f ∷ fs) [] z is = absurd z
    formulas_stay (f ∷ fs) (g ∷ gs) z is =
        All-cons IsFormula g gs ((z.0.stands job whole of).formula (All-head IsFormula f fs is)) (formulas_stay fs gs z.1 (All-tail IsFormula f fs is))
