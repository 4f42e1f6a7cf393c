use Rattle.std.specs.List.{flat_map, range_with_len}
use Rattle.domains.specs.Tiles.{tile_cols}
use Rattle.job.specs.Kept.{pipeline_in, program_id_in}
use Rattle.held_facts.specs.inside.Gathering.{CameIn, row_partials}
use Rattle.held_facts.proofs.held.HeldJobFacts.accumulate_stage_partials.Given as goal

-- the partials of the rows so far came in
abbrev pub invariant-loop-row : goal.invariant-loop-row
invariant-loop-row g l =
    CameIn (pipeline_in l.self.job.now) l.stage
    (flat_map
    (row_partials l.self.state.now (program_id_in l.self.job.now) (pipeline_in l.self.job.now) l.stage (tile_cols l.grid))
    (range_with_len 0 l.row))
    l.initial.gathering l.gathering
