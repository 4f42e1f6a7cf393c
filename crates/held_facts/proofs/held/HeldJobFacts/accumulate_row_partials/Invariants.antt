use Rattle.job.specs.Kept.{pipeline_in, program_id_in}
use Rattle.held_facts.specs.inside.Gathering.{CameIn, row_partials}
use Rattle.held_facts.proofs.held.HeldJobFacts.accumulate_row_partials.Given as goal

-- the partials of the tiles so far came in
abbrev pub invariant-loop-col : goal.invariant-loop-col
invariant-loop-col g l =
    CameIn (pipeline_in l.self.job.now) l.stage
    (row_partials l.self.state.now (program_id_in l.self.job.now) (pipeline_in l.self.job.now) l.stage l.col l.row) l.initial.gathering
    l.gathering
