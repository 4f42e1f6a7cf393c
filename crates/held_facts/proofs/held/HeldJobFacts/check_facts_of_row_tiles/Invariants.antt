use Rattle.job.specs.Kept.{pipeline_in, program_id_in}
use Rattle.held_facts.specs.inside.Judging.{RowIsReady}
use Rattle.held_facts.proofs.held.HeldJobFacts.check_facts_of_row_tiles.Given as goal

-- the tiles so far are ready
abbrev pub invariant-loop-col : goal.invariant-loop-col
invariant-loop-col g l = RowIsReady l.self.state.now (program_id_in l.self.job.now) (pipeline_in l.self.job.now) l.stage l.col l.row
