-- How rows of stages are made in 16 bits: the shape of each stage.
use Rattle.std.proofs.Common.{ℕ, zero, suc, ℤ, ◌≡◌, ◌+◌, ◌<◌, List, [], ◌∷◌, ◌++◌, Option, None, Some, length, map, take, slice_get}
use Rattle.std.proofs.Common.{arith, refl, sym, ap, ◌∙◌, subst}
use Rattle.std.specs.Prelude.{All, slice_index_or}
use Rattle.std.proofs.Math.Logic.{∥∥₁_elim}
use Rattle.std.proofs.Props.{props}
use Rattle.std.proofs.lemmas.List.{take_more, map-append}
use Rattle.std.proofs.lemmas.Option.{none-some, same_Some}
use Rattle.job.specs.Formula.{Formula}
use Rattle.job.specs.Pipeline.{JobCase, function, Stage}
use Rattle.job.specs.Reads.{EachRead, EachTaken, BodyReads, reads_in}
use Rattle.job.specs.ReadViews.{same_reads-prop}
use Rattle.job.specs.Values.{Valuation, formula_value}
use Rattle.job.specs.Views.{stage_view}
use Rattle.job.specs.declared.stage.Stage.{Stage as KeptStage}
use Rattle.tile_eval.specs.Cases.{function_value}
use Rattle.column_phases.specs.Phases.{ArePhasesOf}
use Rattle.column_phases.specs.PhasesOnce.{ArePhasesOf-prop}
use Rattle.job.specs.declared.stage.Function.{Function}
use Rattle.row_rings.specs.RingShapes.{IsFormulaBody, IsShapeOf, AreShapesOf}
use Rattle.row_rings.specs.declared.ring_shapes.RingShape.{RingShape}

-- ---- a function that is one formula everywhere

-- what the function reads, the formula reads
pub formula_read : (P : ℕ → ℤ → ℤ → Type 0) (f : Formula) (cases : List JobCase) (otherwise : Option Formula) (r c : ℤ)
    → IsFormulaBody f (function cases otherwise) → BodyReads P (function cases otherwise) r c → EachRead P f r c
formula_read P f cases None r c is h = absurd (∥∥₁_elim is (λ x y. absurd x) (λ e. none-some f e.1))
formula_read P f cases (Some g) r c is h =
    subst (λ xs. All (λ x. EachTaken P x r c) xs) (∥∥₁_elim is (same_reads-prop (reads_in g) (reads_in f)) (λ e. ap reads_in (same_Some g f e.1)))
    (h.1 g refl)

-- they have one value
pub formula_everywhere : (env : Valuation) (f : Formula) (cases : List JobCase) (otherwise : Option Formula) (r c : ℤ)
    → IsFormulaBody f (function cases otherwise) → formula_value env f r c ≡ function_value env cases otherwise r c
formula_everywhere env f cases otherwise r c is =
    ∥∥₁_elim is (hlevel props) (λ e i. function_value env (sym e.0 i) (sym e.1 i) r c)

-- phases of a function are those of the same one
pub phases_same : (phases : List Function) (ps us : List JobCase) (o w : Option Formula) → ∥ (ps ≡ us) × (o ≡ w) ∥₁
    → ArePhasesOf phases us w → ArePhasesOf phases ps o
phases_same phases ps us o w same are =
    ∥∥₁_elim same (ArePhasesOf-prop phases ps o) (λ e. subst (λ (xs : List JobCase). ArePhasesOf phases xs o) (sym e.0)
    (subst (λ (x : Option Formula). ArePhasesOf phases us x) (sym e.1) are))

-- ---- the shapes of stages

pub shapes_pushed : (shapes : List RingShape) (stages : List Stage) (shape : RingShape) (s : Stage) → AreShapesOf shapes stages
    → IsShapeOf shape s.body → AreShapesOf (shapes ++ shape ∷ []) (stages ++ s ∷ [])
shapes_pushed [] [] shape s are is = (is, tt)
shapes_pushed [] (t ∷ stages) shape s are is = absurd are
shapes_pushed (x ∷ shapes) [] shape s are is = absurd are
shapes_pushed (x ∷ shapes) (t ∷ stages) shape s are is = (are.0, shapes_pushed shapes stages shape s are.1 is)

-- one stage more of those in memory
pub shapes_more : (shapes : List RingShape) (shape : RingShape) (stages : List KeptStage) (i : ℕ) (s : KeptStage) → i < length stages
    → s ≡ slice_index_or stages i s → AreShapesOf shapes (map stage_view (take i stages)) → IsShapeOf shape (stage_view s).body
    → AreShapesOf (shapes ++ shape ∷ []) (map stage_view (take (i + 1) stages))
shapes_more shapes shape stages i s h so are is =
    subst (AreShapesOf (shapes ++ shape ∷ []))
    (sym (map-append stage_view (take i stages) (slice_index_or stages i s ∷ [])) ∙ ap (map stage_view) (sym (take_more stages i s h)))
    (shapes_pushed shapes (map stage_view (take i stages)) shape (stage_view (slice_index_or stages i s)) are
    (subst (λ (x : KeptStage). IsShapeOf shape (stage_view x).body) so is))

-- there is one for each stage
pub shapes_reach : (shapes : List RingShape) (stages : List Stage) (g : ℕ) (s : Stage) → AreShapesOf shapes stages
    → slice_get stages g ≡ Some s → g < length shapes
shapes_reach [] [] g s are there = absurd (none-some s there)
shapes_reach [] (t ∷ stages) g s are there = absurd are
shapes_reach (x ∷ shapes) [] g s are there = absurd are
shapes_reach (x ∷ shapes) (t ∷ stages) zero s are there = omega arith
shapes_reach (x ∷ shapes) (t ∷ stages) (suc g) s are there =
    let less : g < length shapes = shapes_reach shapes stages g s are.1 there in
    omega (arith, less)

pub shape_at : (shapes : List RingShape) (stages : List Stage) (g : ℕ) (shape : RingShape) (s : Stage) → AreShapesOf shapes stages
    → slice_get shapes g ≡ Some shape → slice_get stages g ≡ Some s → IsShapeOf shape s.body
shape_at [] [] g shape s are found there = absurd (none-some s there)
shape_at [] (t ∷ stages) g shape s are found there = absurd are
shape_at (x ∷ shapes) [] g shape s are found there = absurd are
shape_at (x ∷ shapes) (t ∷ stages) zero shape s are found there =
    subst (λ (y : RingShape). IsShapeOf y s.body) (same_Some x shape found)
    (subst (λ (u : Stage). IsShapeOf x u.body) (same_Some t s there) are.0)
shape_at (x ∷ shapes) (t ∷ stages) (suc g) shape s are found there = shape_at shapes stages g shape s are.1 found there
