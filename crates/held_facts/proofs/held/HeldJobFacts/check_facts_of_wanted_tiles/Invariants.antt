use Rattle.std.proofs.Common.{ℕ, ◌<◌}
use Rattle.job.specs.Kept.{pipeline_in, program_id_in}
use Rattle.held_facts.specs.inside.Judging.{WantedIsReady}
use Rattle.held_facts.proofs.held.HeldJobFacts.check_facts_of_wanted_tiles.Given as goal

-- the stages so far are ready, if they are wanted
abbrev pub invariant-loop-stage : goal.invariant-loop-stage
invariant-loop-stage g l =
    (n : ℕ) → n < l.stage → WantedIsReady l.self.state.now (program_id_in l.self.job.now) (pipeline_in l.self.job.now) n
