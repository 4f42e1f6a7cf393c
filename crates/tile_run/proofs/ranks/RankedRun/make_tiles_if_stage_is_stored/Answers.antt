use Rattle.std.proofs.Common.{◌≡◌, map, subst, sym, ◌∙◌}
use Rattle.std.proofs.lemmas.Result.{IfOk-weaker}
use Rattle.domains.specs.Tiles.{HasTile, tile_rows}
use Rattle.domains.specs.declared.grid.Grid.{Grid}
use Rattle.job.specs.Answers.{grid_of}
use Rattle.job.specs.Kept.{pipeline_in}
use Rattle.job.specs.Pipeline.{Stage, Pipeline}
use Rattle.job.specs.Views.{stage_view}
use Rattle.job.proofs.Unrolling.{rank_is}
use Rattle.tile_run.specs.StageRuns.{row_numbers, FitsAt}
use Rattle.tile_run.specs.Stored.{stored_tiles, IsStoredFunction}
use Rattle.tile_run.specs.inside.Running.{grid_values, AreTilesOf, AreStored}
use Rattle.tile_run.proofs.NeedsAreHeld.{needs_below}
use Rattle.tile_run.proofs.RunAllStores.{are_tiles}
use Rattle.tile_run.proofs.ranks.RankedRun.make_tiles_if_stage_is_stored.Goals as goal

pub compute_tiles-requires-clause-ready : goal.compute_tiles-requires-clause-ready
compute_tiles-requires-clause-ready g c κs within =
    let run = c.args.self.now in
    let job : Pipeline = pipeline_in run.job.now in
    let inlining = run.schedule.now.inlining in
    let s : Stage = stage_view c.in-Some.found.now in
    let there = sym c.in-Some.ensures in
    let is = c.is_stored_function.ensures.stored c.if-is_stored_function.true in
    let function : IsStoredFunction job inlining c.args.stage s = record { there = there; function = is.0; stored = is.1 } in
    let parted : c.new-grid.result ≡ grid_of job s = c.new-grid.ensures
    ∙ (λ i. record { area = c.domain.ensures i; sides = c.sides.ensures i }) in
    record {
      stage = s;
      function = function;
      parted = parted;
      fit = subst (λ (d : Grid). (i j : _) → HasTile d i j
          → FitsAt job inlining c.args.stage d i j) (sym parted) (run.fit c.args.stage s function);
      right = c.requires.stored.right;
      needs = needs_below job inlining (stored_tiles c.args.stored.now.stages.items) c.args.stage run.job.now.well s there
          (subst (λ r. AreStored job inlining r c.args.stored.now.stages.items) (rank_is job.stages c.args.stage s there)
          c.requires.stored).all;
    }

pub returns-in-Some : goal.returns-in-Some
returns-in-Some g c =
    let run = c.args.self.now in
    let job : Pipeline = pipeline_in run.job.now in
    let inlining = run.schedule.now.inlining in
    let s : Stage = stage_view c.in-Some.found.now in
    let parted : c.new-grid.result ≡ grid_of job s = c.new-grid.ensures
    ∙ (λ i. record { area = c.domain.ensures i; sides = c.sides.ensures i }) in
    IfOk-weaker c.compute_tiles.result _ (AreTilesOf job inlining c.args.stage) (λ tiles e.
    are_tiles job inlining c.args.stage s tiles (sym c.in-Some.ensures)
    (subst (λ (d : Grid). map row_numbers tiles.rows.items ≡ grid_values job c.args.stage d (tile_rows d)) parted e))
    c.compute_tiles.ensures
