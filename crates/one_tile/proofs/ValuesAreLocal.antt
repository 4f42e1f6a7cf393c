-- Functions over areas, computed from what is at hand.
use Rattle.std.proofs.Common.{ℕ, ℤ, ◌≡◌, refl, Bool, List, Option, Some, slice_get}
use Rattle.std.proofs.Common.{ap, sym, ◌∙◌, subst}
use Rattle.std.specs.Prelude.{All, unwrap_or}
use Rattle.domains.specs.Area.{HoldsPoint, IsArea, IsSubarea}
use Rattle.domains.specs.declared.area.Area.{Area}
use Rattle.job.specs.Formula.{Formula}
use Rattle.job.specs.Pipeline.{JobCase, Body, function, Stage, Pipeline}
use Rattle.job.specs.Boxes.{AreBoxed}
use Rattle.job.specs.Reads.{BodyReads, formulas_of}
use Rattle.job.specs.Values.{Valuation, body_value}
use Rattle.job.specs.WellFormed.{IsFormula, IsTest, InDomainRange, IsBody, IsStage, IsJob}
use Rattle.tile_eval.specs.Cases.{AreBoxedAround, function_value}
use Rattle.tile_eval.specs.Raster.{raster}
use Rattle.tile_eval.proofs.Rasters.{raster_same}
use Rattle.tile_eval.proofs.NearAreas.{near_inside}
use Rattle.tile_sources.specs.KnownTiles.{KnownTiles}
use Rattle.one_tile.specs.Local.{read_from, local_value, IsAtHand}
use Rattle.one_tile.specs.inside.Steps.{IsFunctionAt, IsReadyOver}
use Rattle.one_tile.specs.Prepared.{input_at}
use Rattle.one_tile.proofs.LocalValuesUnroll.{step_is_local}

pub same_stage : (stages : List Stage) (g : ℕ) (s t : Stage) → slice_get stages g ≡ Some s → slice_get stages g ≡ Some t → s ≡ t
same_stage stages g s t e f = ap (λ (o : Option Stage). unwrap_or o t) (sym e ∙ f)

module _ (job : Pipeline) (is : IsJob job) (inlining : List Bool) (given : KnownTiles) (Inner : ℕ → ℤ → ℤ → Type 0) (g : ℕ)
    (ps : List JobCase) (o : Option Formula) (area : Area) (here : IsFunctionAt job g ps o)
    (ready : IsReadyOver job inlining given Inner g area) where
  stage_is : IsStage job here.stage
  stage_is = is.stages g here.stage here.there

  inside : IsSubarea area here.stage.domain
  inside r c h = let p = ready r c h in subst (λ (s : Stage). HoldsPoint s.domain r c)
      (same_stage job.stages g p.stage here.stage p.there here.there) p.inside

  stage_reads : (r c : ℤ) → HoldsPoint area r c → BodyReads (IsAtHand job inlining given Inner) here.stage.body r c
  stage_reads r c h = let p = ready r c h in subst (λ (s : Stage). BodyReads (IsAtHand job inlining given Inner) s.body r c)
      (same_stage job.stages g p.stage here.stage p.there here.there) p.reads

  pub all_near : IsArea area → InDomainRange area.rows × InDomainRange area.cols
  all_near a = near_inside area here.stage.domain a inside stage_is.rows stage_is.cols

  pub tests_are : All (λ p. All IsTest p.tests) ps
  tests_are = subst (λ (b : Body). IsBody job.picture here.stage.domain b) here.body stage_is.body

  pub formulas_are : All IsFormula (formulas_of (function ps o))
  formulas_are = subst (λ (b : Body). All IsFormula (formulas_of b)) here.body stage_is.formulas

  pub boxes_are : AreBoxedAround area (function ps o)
  boxes_are = (here.stage.domain, inside, subst (λ (b : Body). AreBoxed here.stage.domain b) here.body stage_is.boxes)

  pub reads_are : (r c : ℤ) → HoldsPoint area r c → BodyReads (IsAtHand job inlining given Inner) (function ps o) r c
  reads_are r c h = subst (λ (b : Body). BodyReads (IsAtHand job inlining given Inner) b r c) here.body (stage_reads r c h)

  -- the values over the area, by the local values of inlined functions, are local values
  pub values_are : raster area (function_value (input_at job inlining given) ps o) ≡ raster area (local_value job inlining given g)
  values_are =
      let e : Valuation = local_value job inlining given in
      raster_same area (function_value (read_from job inlining given e) ps o) e_of (λ r c h.
      ap (λ (b : Body). body_value job.picture (read_from job inlining given e) b r c) (sym here.body)
      ∙ step_is_local job inlining given Inner e is (λ k i j hand. refl) g here.stage r c here.there (inside r c h) (stage_reads r c h))
    where
      e_of : ℤ → ℤ → ℤ
      e_of = local_value job inlining given g
