use Rattle.std.proofs.Common.{◌<◌}
use Rattle.domains.specs.Tiles.{tile_rows, tile_cols}
use Rattle.job.specs.Kept.{pipeline_in}
use Rattle.rayon.proofs.ToStd.{nat_range-All}
use Rattle.tile_run.specs.StageRuns.{row_numbers, row_values}
use Rattle.tile_run.proofs.MadeInOrder.{collected}
use denote.Param.Send.{sendable}
use Rattle.std.proofs.Crossing as owners
use Rattle.tile_run.proofs.Crossing.{stage_run_sync}
use Rattle.tile_run.proofs.stage_run.StageRun.compute_tile_rows_in_parallel.Goals as goal

pub map_init-requires-send-F : goal.map_init-requires-send-F
map_init-requires-send-F g c κs within = search (stage_run_sync, sendable, owners.crosses) depth 40

pub map_init-requires-sync-F : goal.map_init-requires-sync-F
map_init-requires-sync-F g c κs within = search (stage_run_sync, sendable, owners.crosses) depth 40

pub collect-requires-send-Self : goal.collect-requires-send-Self
collect-requires-send-Self g c κs within = search (stage_run_sync, sendable, owners.crosses) depth 40

pub collect-requires-clause-ready : goal.collect-requires-clause-ready
collect-requires-clause-ready g c κs within =
    let ends = c.into_par_iter.ensures in
    let rows = tile_rows c.args.self.now.grid in
    let inside = nat_range-All (λ i. i < rows) 0 rows (λ i low high. high) in
    rw (c.map_init.ensures.base, c.map_init.ensures.f, c.with_min_len.ensures.base, ends.0, ends.1, c.tile_rows.ensures.number)
    (tt, λ k d lt. (λ p. (c.requires.ready, inside k d lt), λ p q y made. tt))

pub returns : goal.returns
returns g c =
    let ends = c.into_par_iter.ensures in
    let run = c.args.self.now in
    let made = rw (c.map_init.ensures.base, c.map_init.ensures.f, c.with_min_len.ensures.base, ends.0, ends.1, c.tile_rows.ensures.number)
    at c.in_ok-collect.ensures.1 in
    collected row_numbers (λ row. row_values (pipeline_in run.job.now) run.stage run.grid row (tile_cols run.grid)) _ (tile_rows run.grid)
    c.in_ok-collect.ensures.0 c.in_ok-collect.field-0 (λ row tiles it. it.2) made.0 made.1 made.2 c.in_ok-collect.ensures.2
