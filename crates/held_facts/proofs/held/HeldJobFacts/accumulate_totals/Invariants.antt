use Rattle.std.proofs.Common.{◌≡◌, map}
use Rattle.std.specs.List.{flat_map, range_with_len}
use Rattle.accumulators.specs.Answers.{gathered}
use Rattle.accumulators.specs.Gatherings.{gathered_from}
use Rattle.job.specs.Kept.{pipeline_in, program_id_in}
use Rattle.held_facts.specs.HeldAnswers.{held_partials}
use Rattle.held_facts.proofs.held.HeldJobFacts.accumulate_totals.Given as goal

-- the stages so far are gathered
abbrev pub invariant-loop-stage : goal.invariant-loop-stage
invariant-loop-stage g l =
    map gathered l.totals.items
    ≡ flat_map
    (λ n. gathered_from (pipeline_in l.self.job.now) n
    (held_partials l.self.state.now (program_id_in l.self.job.now) (pipeline_in l.self.job.now) n))
    (range_with_len 0 l.stage)
