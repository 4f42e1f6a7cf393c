use Rattle.std.proofs.Common.{◌≡◌, map}
use Rattle.job.specs.Kept.{pipeline_in}
use Rattle.tile_run.specs.StageRuns.{row_numbers}
use Rattle.tile_run.specs.inside.Running.{grid_values}
use Rattle.tile_run.proofs.stage_run.StageRun.compute_tile_rows_in_turn.Given as goal

abbrev pub invariant-loop-row : goal.invariant-loop-row
invariant-loop-row l = map row_numbers l.rows.items ≡ grid_values (pipeline_in l.self.job.now) l.self.stage l.self.grid l.row
