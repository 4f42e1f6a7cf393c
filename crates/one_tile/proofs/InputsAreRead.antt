-- What is at hand of a stage, and what is read of it, by what stands at its points.
use Rattle.std.proofs.Common.{ℕ, ℤ, ◌≡◌, ap, ◌∙◌, sym, subst, Bool, true, false, List, Option, Some, None, slice_get}
use Rattle.std.specs.Prelude.{if◌then◌else◌, map}
use Rattle.std.specs.Option.{option_map}
use Rattle.domains.specs.Span.{Ends}
use Rattle.domains.specs.Area.{HoldsPoint}
use Rattle.operators.specs.declared.operator.ReductionOp.{ReductionOp}
use Rattle.domains.specs.declared.grid.Grid.{Grid}
use Rattle.job.specs.declared.stage.Function.{Function as KeptFunction}
use Rattle.job.specs.declared.stage.Body.{Body as KeptBody}
use Rattle.job.specs.declared.stage.Body.TheVariants.{Plane, Function}
use Rattle.job.specs.declared.stage.Stage.{Stage as KeptStage}
use Rattle.job.specs.Formula.{Formula}
use Rattle.job.specs.Pipeline.{JobCase, Body, plane, function, accumulator, Stage, Pipeline}
use Rattle.job.specs.Answers.{grid_of}
use Rattle.job.specs.Views.{case_view, formula_view, body_view, stage_view}
use Rattle.job.specs.Values.{Valuation, sample_at}
use Rattle.tile_boxes.specs.Schedules.{is_inlined}
use Rattle.tile_sources.specs.KnownTiles.{KnownTiles, number_at, given_number, IsGivenAt}
use Rattle.one_tile.specs.Local.{body_given, stage_given, read_from, FunctionAtHand, BodyAtHand, StageAtHand, IsAtHand}

module _ (job : Pipeline) (inlining : List Bool) (given : KnownTiles) (Inner : ℕ → ℤ → ℤ → Type 0) (g : ℕ) (r c : ℤ) where
  pub no_stage : slice_get job.stages g ≡ None → ¬ (IsAtHand job inlining given Inner g r c)
  no_stage none h = subst (λ (o : Option Stage). StageAtHand job inlining given Inner g o r c) none h

  module _ (s : Stage) (there : slice_get job.stages g ≡ Some s) (hand : IsAtHand job inlining given Inner g r c) where
    of_body : (body : Body) → s.body ≡ body → BodyAtHand job inlining given Inner g s body r c
    of_body body is = subst (λ (b : Body). BodyAtHand job inlining given Inner g s b r c) is
        (subst (λ (o : Option Stage). StageAtHand job inlining given Inner g o r c) there hand)

    pub of_plane : (n : ℕ) → s.body ≡ plane n → HoldsPoint s.domain r c
    of_plane n is = of_body (plane n) is

    pub of_inlined : (ps : List JobCase) (o : Option Formula) → s.body ≡ function ps o → is_inlined inlining g ≡ true → Inner g r c
    of_inlined ps o is flag =
        subst (λ (b : Bool). FunctionAtHand b (Inner g r c) (IsGivenAt given g (grid_of job s) r c)) flag (of_body (function ps o) is)

    pub of_stored : (ps : List JobCase) (o : Option Formula) → s.body ≡ function ps o → is_inlined inlining g ≡ false
        → IsGivenAt given g (grid_of job s) r c
    of_stored ps o is flag =
        subst (λ (b : Bool). FunctionAtHand b (Inner g r c) (IsGivenAt given g (grid_of job s) r c)) flag (of_body (function ps o) is)

    pub no_accumulator : (fold : ReductionOp) (bins : Ends) (value bin : Formula) → s.body ≡ accumulator fold bins value bin → ⊥
    no_accumulator fold bins value bin is = of_body (accumulator fold bins value bin) is

module _ (job : Pipeline) (inlining : List Bool) (given : KnownTiles) (inner : Valuation) (g : ℕ) (s : Stage)
    (there : slice_get job.stages g ≡ Some s) (r c : ℤ) where
  read_body : (body : Body) → s.body ≡ body → read_from job inlining given inner g r c ≡ body_given job inlining given inner g s body r c
  read_body body is = ap (λ (o : Option Stage). stage_given job inlining given inner g o r c) there
      ∙ ap (λ (b : Body). body_given job inlining given inner g s b r c) is

  pub read_plane : (n : ℕ) → s.body ≡ plane n → read_from job inlining given inner g r c ≡ sample_at job.picture n r c
  read_plane n is = read_body (plane n) is

  pub read_inlined : (ps : List JobCase) (o : Option Formula) → s.body ≡ function ps o → is_inlined inlining g ≡ true
      → read_from job inlining given inner g r c ≡ inner g r c
  read_inlined ps o is flag =
      read_body (function ps o) is ∙ ap (λ (b : Bool). if b then inner g r c else given_number job given g s r c) flag

  pub read_stored : (ps : List JobCase) (o : Option Formula) → s.body ≡ function ps o → is_inlined inlining g ≡ false
      → read_from job inlining given inner g r c ≡ given_number job given g s r c
  read_stored ps o is flag =
      read_body (function ps o) is ∙ ap (λ (b : Bool). if b then inner g r c else given_number job given g s r c) flag

-- ---- stages in memory

pub plane_body : (s : KeptStage) (b : KeptBody) (n : ℕ) → b ≡ s.body → b ≡ Plane n → (stage_view s).body ≡ plane n
plane_body s b n of is = ap body_view (sym of ∙ is)

pub function_body : (s : KeptStage) (b : KeptBody) (f : KeptFunction) → b ≡ s.body → b ≡ Function f
    → (stage_view s).body ≡ function (map case_view f.cases.items) (option_map formula_view f.otherwise)
function_body s b f of is = ap body_view (sym of ∙ is)

-- ---- the same tiles by other names

module _ (given lent' : KnownTiles) (g g' : ℕ) (grid grid' : Grid) (r c r' c' : ℤ) (same_given : lent' ≡ given) (same_stage : g'
    ≡ g) (same_grid : grid' ≡ grid) (same_row : r' ≡ r) (same_column : c' ≡ c) where
  pub number_by : number_at lent' g' grid' r' c' ≡ number_at given g grid r c
  number_by = λ i. number_at (same_given i) (same_stage i) (same_grid i) (same_row i) (same_column i)

  pub given_by : IsGivenAt given g grid r c → IsGivenAt lent' g' grid' r' c'
  given_by h =
      subst (λ (l : KnownTiles). IsGivenAt l g' grid' r' c') (sym same_given)
      (subst (λ (n : ℕ). IsGivenAt given n grid' r' c') (sym same_stage)
      (subst (λ (d : Grid). IsGivenAt given g d r' c') (sym same_grid)
      (subst (λ (z : ℤ). IsGivenAt given g grid z c') (sym same_row)
      (subst (λ (z : ℤ). IsGivenAt given g grid r z) (sym same_column) h))))
