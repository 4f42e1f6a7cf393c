use Rattle.tile_run.proofs.RunAllStores.{row_more}
use Rattle.tile_run.proofs.stage_run.StageRun.compute_tile_row.Goals as goal

pub loop-col-preserved : goal.loop-col-preserved
loop-col-preserved c = row_more _ _ c.loop-col.col c.loop-col.tiles.items _ c.in_ok-compute_tile.field-0 c.loop-col.invariant
    c.in_ok-push.ensures.items c.in_ok-compute_tile.ensures
