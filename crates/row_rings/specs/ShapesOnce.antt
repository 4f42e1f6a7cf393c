-- A stage has a shape in one way: any two proofs of it are equal.
use Rattle.std.specs.Prelude.{List, [], ◌∷◌}
use Rattle.std.proofs.Props.{props}
use Rattle.column_phases.specs.PhasesOnce.{ArePhasesOf-prop}
use Rattle.job.specs.Formula.{Formula}
use Rattle.job.specs.declared.stage.Function.{Function}
use Rattle.job.specs.Pipeline.{Body, plane, function, accumulator, Stage}
use Rattle.linear_rows.specs.LinearOnce.{IsRightLinear-prop}
use Rattle.narrow_eval.specs.declared.narrow_case.NarrowFunction.{NarrowFunction}
use Rattle.narrow_pieces.specs.PiecesOnce.{AreFunctionPieces-prop}
use Rattle.narrow_pieces.specs.declared.piece.NarrowPieces.{NarrowPieces}
use Rattle.wide_divisions.specs.StepsOnce.{IsRightStep-prop}
use Rattle.row_rings.specs.declared.ring_shapes.RingShape.{RingShape}
use Rattle.row_rings.specs.declared.ring_shapes.RingShape.TheVariants.{Linear, Pieces, Division, Phases, Formulas, Other}
use Rattle.row_rings.specs.RingShapes.{IsFormulaBody, ArePiecesOfBody, IsPhasedBody, IsProgrammedBody, IsNoFunction, IsShapeOf, AreShapesOf}

IsFormulaBody-prop : (f : Formula) (body : Body) → IsProp (IsFormulaBody f body)
IsFormulaBody-prop f (plane n) = hlevel props
IsFormulaBody-prop f (function cases otherwise) = hlevel props
IsFormulaBody-prop f (accumulator fold bins value bin) = hlevel props

ArePiecesOfBody-prop : (pieces : NarrowPieces) (body : Body) → IsProp (ArePiecesOfBody pieces body)
ArePiecesOfBody-prop pieces (plane n) = hlevel props
ArePiecesOfBody-prop pieces (function cases otherwise) = AreFunctionPieces-prop pieces cases otherwise
ArePiecesOfBody-prop pieces (accumulator fold bins value bin) = hlevel props

IsPhasedBody-prop : (phases : List Function) (body : Body) → IsProp (IsPhasedBody phases body)
IsPhasedBody-prop phases (plane n) = hlevel props
IsPhasedBody-prop phases (function cases otherwise) = ArePhasesOf-prop phases cases otherwise
IsPhasedBody-prop phases (accumulator fold bins value bin) = hlevel props

IsProgrammedBody-prop : (program : NarrowFunction) (body : Body) → IsProp (IsProgrammedBody program body)
IsProgrammedBody-prop program (plane n) = hlevel props
IsProgrammedBody-prop program (function cases otherwise) = hlevel props
IsProgrammedBody-prop program (accumulator fold bins value bin) = hlevel props

IsNoFunction-prop : (body : Body) → IsProp (IsNoFunction body)
IsNoFunction-prop (plane n) = hlevel props
IsNoFunction-prop (function cases otherwise) = hlevel props
IsNoFunction-prop (accumulator fold bins value bin) = hlevel props

IsShapeOf-prop : (shape : RingShape) (body : Body) → IsProp (IsShapeOf shape body)
IsShapeOf-prop (Linear row) body = hlevel (IsFormulaBody-prop, IsRightLinear-prop, props)
IsShapeOf-prop (Pieces pieces) body = ArePiecesOfBody-prop pieces body
IsShapeOf-prop (Division step program) body = hlevel (IsFormulaBody-prop, IsRightStep-prop, IsProgrammedBody-prop, props)
IsShapeOf-prop (Phases phases program) body = hlevel (IsPhasedBody-prop, IsProgrammedBody-prop, props)
IsShapeOf-prop (Formulas program) body = IsProgrammedBody-prop program body
IsShapeOf-prop Other body = IsNoFunction-prop body

pub AreShapesOf-prop : (shapes : List RingShape) (stages : List Stage) → IsProp (AreShapesOf shapes stages)
AreShapesOf-prop [] [] = hlevel props
AreShapesOf-prop [] (s ∷ stages) = hlevel props
AreShapesOf-prop (shape ∷ shapes) [] = hlevel props
AreShapesOf-prop (shape ∷ shapes) (s ∷ stages) = hlevel (IsShapeOf-prop shape s.body, AreShapesOf-prop shapes stages, props)
