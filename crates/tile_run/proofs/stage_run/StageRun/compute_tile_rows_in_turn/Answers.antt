use Rattle.tile_run.proofs.RunAllStores.{row_more}
use Rattle.tile_run.proofs.stage_run.StageRun.compute_tile_rows_in_turn.Goals as goal

pub loop-row-preserved : goal.loop-row-preserved
loop-row-preserved c = row_more _ _ c.loop-row.row c.loop-row.rows.items _ c.in_ok-compute_tile_row.field-0 c.loop-row.invariant
    c.in_ok-push.ensures.items c.in_ok-compute_tile_row.ensures
