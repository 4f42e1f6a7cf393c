use Rattle.held_facts.proofs.Answered.{outputs_kept, answer_kept}
use Rattle.held_facts.proofs.facts.HeldFacts.answer.Goals as goal

pub assemble_image-requires : goal.assemble_image-requires
assemble_image-requires g c =
    outputs_kept c.new-held.result.state.now c.args.job.now c.new-held.result.job.now c.new-held.ensures.job c.in_ok-check_facts_of_wanted_tiles.ensures.ready

pub returns-clause-answer : goal.returns-clause-answer
returns-clause-answer g c =
    answer_kept c.args.self.now c.new-held.result.state.now c.args.job.now c.new-held.result.job.now
    (record { picture = c.in_ok-picture.picture; totals = c.in_ok-totals.totals })
    c.new-held.ensures.state c.new-held.ensures.job c.in_ok-check_facts_of_wanted_tiles.ensures.ready c.in_ok-picture.ensures.answer c.in_ok-totals.ensures
