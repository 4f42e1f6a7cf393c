use Rattle.std.proofs.lemmas.Result.{IfOk-weaker}
use Rattle.job.specs.Kept.{pipeline_in}
use Rattle.tile_run.specs.Stored.{stored_tiles}
use Rattle.tile_run.proofs.StageRunGivesTiles.{whole, of_function, values_are}
use Rattle.tile_run.proofs.stage_run.StageRun.compute_tile.Goals as goal

pub invariant_of-tile : goal.invariant_of-tile
invariant_of-tile c =
    let run = c.args.self.now in
    let job = pipeline_in run.job.now in
    record {
      whole = whole job run.schedule.now.inlining (stored_tiles run.stored.now.stages.items) run.stage run.grid run.job.now.well
          c.requires.ready;
    }

pub compute_values_if_stage_is_function-requires-clause-layout : goal.compute_values_if_stage_is_function-requires-clause-layout
compute_values_if_stage_is_function-requires-clause-layout c =
    let run = c.args.self.now in
    of_function (pipeline_in run.job.now) run.schedule.now.inlining (stored_tiles run.stored.now.stages.items) run.stage run.grid
    run.job.now.well c.requires.ready c.args.row c.args.col c.in_ok-layout.layout c.in_ok-layout.ensures

pub compute_values_if_stage_is_function-requires-clause-needs : goal.compute_values_if_stage_is_function-requires-clause-needs
compute_values_if_stage_is_function-requires-clause-needs c = c.requires.ready.needs c.args.row c.args.col c.in_ok-layout.layout c.in_ok-layout.ensures

pub returns : goal.returns
returns c =
    let run = c.args.self.now in
    let inlining = run.schedule.now.inlining in
    IfOk-weaker c.compute_values_if_stage_is_function.result _ _
    (λ values local.
    values_are (pipeline_in run.job.now) inlining (stored_tiles run.stored.now.stages.items) run.stage run.grid run.job.now.well
    c.requires.ready c.args.row c.args.col c.in_ok-layout.layout c.in_ok-layout.ensures
    values.items (local inlining run.stage c.args.row c.args.col c.in_ok-layout.ensures))
    c.compute_values_if_stage_is_function.ensures
