-- What is kept of the stages tells what they cost.
use Rattle.std.proofs.Common.{ℕ, ◌≡◌, Bool, true, false, ◌&&◌, not, Option, Some, None, List, refl, sym, ap, ◌∙◌}
use Rattle.std.specs.Prelude.{slice_get, if◌then◌else◌}
use Rattle.std.specs.Option.{option_map_or}
use Rattle.std.proofs.lemmas.Option.{slice_get_within}
use Rattle.domains.specs.declared.grid.Grid.{Grid}
use Rattle.job.specs.Pipeline.{Stage, Pipeline}
use Rattle.job.specs.Answers.{grid_of, has_tiles}
use Rattle.job.specs.Readers.{stage_grid, grid_at}
use Rattle.tile_boxes.specs.Schedules.{is_inlined}
use Rattle.tile_boxes.specs.Costs.{cost_of, stage_cost, cost}
use Rattle.grouping.specs.Greedy.{Grouping}
use Rattle.grouping.specs.inside.Standings.{AllStand}
use Rattle.grouping.specs.inside.Trials.{find_kept_cost_of_stored_stage}
use Rattle.grouping.specs.declared.standing.StageStatus.{StageStatus}
use Rattle.tile_boxes.proofs.TilesAreTargets.{gridded}
use Rattle.grouping.proofs.InlinedStands.{points_kept}

-- what is inlined has no cost
pub none_inlined : (job : Pipeline) (inlining : List Bool) (g : ℕ) → is_inlined inlining g ≡ true → None ≡ cost job inlining g
none_inlined job inlining g inlined = by (slice_get job.stages g)
  where
    no_cost : (b : Bool) → (b && not (is_inlined inlining g)) ≡ false
    no_cost true = ap not inlined
    no_cost false = refl

    by : (o : Option Stage) → None ≡ stage_cost job inlining g o
    by None = refl
    by (Some s) = sym (ap (λ b. if b then Some (cost_of job inlining g s) else None) (no_cost (has_tiles s.body)))

-- nor has what has no tiles
pub none_without_tiles : (job : Pipeline) (inlining : List Bool) (g : ℕ) → grid_at job g ≡ None → None ≡ cost job inlining g
none_without_tiles job inlining g = by (slice_get job.stages g)
  where
    pick : (s : Stage) (b : Bool) → (if b then Some (grid_of job s) else None) ≡ None
        → None ≡ (if b && not (is_inlined inlining g) then Some (cost_of job inlining g s) else None)
    pick s true is = absurd (cc)
    pick s false is = refl

    by : (o : Option Stage) → stage_grid job o ≡ None → None ≡ stage_cost job inlining g o
    by None is = refl
    by (Some s) is = pick s (has_tiles s.body) is

-- of another stage it is kept
pub kept_is_cost : (job : Pipeline) (c : Grouping) (standings : List StageStatus) (g : ℕ) (grid : Grid) → AllStand job c standings
    → is_inlined c.inlining g ≡ false → grid_at job g ≡ Some grid → Some (find_kept_cost_of_stored_stage (slice_get standings g)) ≡ cost job c.inlining g
kept_is_cost job c standings g grid stand stored at =
    let of = gridded job g grid at in
    let tiles : (has_tiles of.stage.body && not (is_inlined c.inlining g)) ≡ true = (λ i. of.tiles i && not (stored i)) in
    let is : cost job c.inlining g ≡ Some (cost_of job c.inlining g of.stage) =
    ap (stage_cost job c.inlining g) of.there
    ∙ ap (λ b. if b then Some (cost_of job c.inlining g of.stage) else None) tiles in
    let kept = points_kept job c standings g stand (slice_get_within job.stages g of.stage of.there) stored in
    ap Some (kept ∙ ap (λ o. option_map_or (λ n. n) o 0) is) ∙ sym is
