-- How the rows of stages are made.
use Rattle.std.specs.Prelude.{ℕ, ◌≡◌, Some, List, [], ◌∷◌, slice_get}
use Rattle.column_phases.specs.Phases.{ArePhasesOf}
use Rattle.job.specs.Formula.{Formula}
use Rattle.job.specs.declared.stage.Function.{Function}
use Rattle.job.specs.Pipeline.{Body, plane, function, accumulator, Stage, Pipeline}
use Rattle.linear_rows.specs.RowFormulas.{linear_formula, IsRightLinear}
use Rattle.narrow_pieces.specs.Pieces.{AreFunctionPieces}
use Rattle.narrow_pieces.specs.declared.piece.NarrowPieces.{NarrowPieces}
use Rattle.narrow_eval.specs.NarrowPrograms.{IsProgramOf}
use Rattle.narrow_eval.specs.declared.narrow_case.NarrowFunction.{NarrowFunction}
use Rattle.wide_divisions.specs.DivisionSteps.{step_formula, IsRightStep}
use Rattle.row_rings.specs.declared.ring_shapes.RingShape.{RingShape}
use Rattle.row_rings.specs.declared.ring_shapes.RingShape.TheVariants.{Linear, Pieces, Division, Phases, Formulas, Other}

-- a function that is this formula everywhere
abbrev pub IsFormulaBody : Formula → Body → Type 0
IsFormulaBody f (plane n) = ⊥
IsFormulaBody f (function cases otherwise) = ∥ (cases ≡ []) × (otherwise ≡ Some f) ∥₁
IsFormulaBody f (accumulator fold bins value bin) = ⊥

-- a function that has these pieces
abbrev pub ArePiecesOfBody : NarrowPieces → Body → Type 0
ArePiecesOfBody pieces (plane n) = ⊥
ArePiecesOfBody pieces (function cases otherwise) = AreFunctionPieces pieces cases otherwise
ArePiecesOfBody pieces (accumulator fold bins value bin) = ⊥

-- a function that has these phases
abbrev pub IsPhasedBody : List Function → Body → Type 0
IsPhasedBody phases (plane n) = ⊥
IsPhasedBody phases (function cases otherwise) = ArePhasesOf phases cases otherwise
IsPhasedBody phases (accumulator fold bins value bin) = ⊥

-- a function that has these programs
abbrev pub IsProgrammedBody : NarrowFunction → Body → Type 0
IsProgrammedBody program (plane n) = ⊥
IsProgrammedBody program (function cases otherwise) = IsProgramOf program cases otherwise
IsProgrammedBody program (accumulator fold bins value bin) = ⊥

-- no function
abbrev pub IsNoFunction : Body → Type 0
IsNoFunction (plane n) = Unit {0}
IsNoFunction (function cases otherwise) = ⊥
IsNoFunction (accumulator fold bins value bin) = Unit {0}

-- rows that are made so are those of the body
abbrev pub IsShapeOf : RingShape → Body → Type 0
IsShapeOf (Linear row) body = IsFormulaBody (linear_formula row) body × IsRightLinear row
IsShapeOf (Pieces pieces) body = ArePiecesOfBody pieces body
IsShapeOf (Division step program) body =
    IsFormulaBody (step_formula step) body × IsRightStep step × IsProgrammedBody program body
IsShapeOf (Phases phases program) body = IsPhasedBody phases.functions.items body × IsProgrammedBody program body
IsShapeOf (Formulas program) body = IsProgrammedBody program body
IsShapeOf Other body = IsNoFunction body

-- and so for stage g
abbrev pub IsStageShape : Pipeline → ℕ → RingShape → Type 0
IsStageShape job g shape = (s : Stage) → slice_get job.stages g ≡ Some s → IsShapeOf shape s.body

-- and for each stage, in a list
abbrev pub AreShapesOf : List RingShape → List Stage → Type 0
AreShapesOf [] [] = Unit {0}
AreShapesOf [] (s ∷ stages) = ⊥
AreShapesOf (shape ∷ shapes) [] = ⊥
AreShapesOf (shape ∷ shapes) (s ∷ stages) = IsShapeOf shape s.body × AreShapesOf shapes stages
