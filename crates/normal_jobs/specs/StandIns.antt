-- Stages that may stand for others where formulas of stages are known: their formulas may, and all else but ranks is the same.
use Rattle.std.specs.Prelude.{◌≡◌, List, Option, Some, None}
use Rattle.std.specs.List.{AllZip}
use Rattle.domains.specs.Span.{Ends}
use Rattle.operators.specs.declared.operator.ReductionOp.{ReductionOp}
use Rattle.job.specs.Formula.{Formula}
use Rattle.job.specs.Pipeline.{JobCase, Body, plane, function, accumulator, Stage}
use Rattle.joined_formulas.specs.Joins.{Joins}
use Rattle.joined_formulas.specs.declared.known.StageFormula.{StageFormula}

-- a case holds at the same points, and its formula may stand for the other's
pub record StandsForCase (known : List StageFormula) (p q : JobCase) : Type 0 where
  pub box : q.box ≡ p.box
  pub tests : q.tests ≡ p.tests
  pub formula : Joins known p.formula q.formula

abbrev pub StandsForOther : List StageFormula → Option Formula → Option Formula → Type 0
StandsForOther known None None = Unit {0}
StandsForOther known None (Some g) = ⊥
StandsForOther known (Some f) None = ⊥
StandsForOther known (Some f) (Some g) = Joins known f g

-- how numbers are joined, and in which bins, is the same; the number of a point and its bin may stand for the others
pub record StandsForSums (known : List StageFormula) (fold other : ReductionOp) (bins ends : Ends) (value amount bin place : Formula) : Type 0 where
  pub way : other ≡ fold
  pub range : ends ≡ bins
  pub amounts : Joins known value amount
  pub places : Joins known bin place

abbrev pub StandsForBody : List StageFormula → Body → Body → Type 0
StandsForBody known (plane n) (plane m) = m ≡ n
StandsForBody known (plane n) (function cases otherwise) = ⊥
StandsForBody known (plane n) (accumulator fold bins value bin) = ⊥
StandsForBody known (function cases otherwise) (plane n) = ⊥
StandsForBody known (function cases otherwise) (function others other) =
    AllZip (StandsForCase known) cases others × StandsForOther known otherwise other
StandsForBody known (function cases otherwise) (accumulator fold bins value bin) = ⊥
StandsForBody known (accumulator fold bins value bin) (plane n) = ⊥
StandsForBody known (accumulator fold bins value bin) (function cases otherwise) = ⊥
StandsForBody known (accumulator fold bins value bin) (accumulator other ends amount place) =
    StandsForSums known fold other bins ends value amount bin place

pub record StandsForStage (known : List StageFormula) (s t : Stage) : Type 0 where
  pub name : t.name ≡ s.name
  pub domain : t.domain ≡ s.domain
  pub body : StandsForBody known s.body t.body

abbrev pub StandForStages : List StageFormula → List Stage → List Stage → Type 0
StandForStages known = AllZip (StandsForStage known)
