use Rattle.std.proofs.Common.{ℕ, ◌<◌}
use Rattle.domains.specs.Tiles.{tile_cols}
use Rattle.job.specs.Kept.{pipeline_in, program_id_in}
use Rattle.held_facts.specs.inside.Judging.{RowIsReady}
use Rattle.held_facts.proofs.held.HeldJobFacts.check_facts_of_stage_tiles.Given as goal

-- the rows so far are ready
abbrev pub invariant-loop-row : goal.invariant-loop-row
invariant-loop-row g l =
    (i : ℕ) → i < l.row
    → RowIsReady l.self.state.now (program_id_in l.self.job.now) (pipeline_in l.self.job.now) l.stage (tile_cols l.grid) i
