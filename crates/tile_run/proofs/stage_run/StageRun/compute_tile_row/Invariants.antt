use Rattle.std.proofs.Common.{◌≡◌, ℤ, map}
use Rattle.std.specs.Global.{Vec}
use Rattle.job.specs.Kept.{pipeline_in}
use Rattle.tile_run.specs.StageRuns.{row_values}
use Rattle.tile_run.proofs.stage_run.StageRun.compute_tile_row.Given as goal

abbrev pub invariant-loop-col : goal.invariant-loop-col
invariant-loop-col l =
    map (λ (t : Vec ℤ). t.items) l.tiles.items ≡ row_values (pipeline_in l.self.job.now) l.self.stage l.self.grid l.row l.col
