use Rattle.held_facts.proofs.TrueStates.{true_answer, true_fault}
use Rattle.held_facts.proofs.laws.true_held_facts_answer_the_job.Goals as goal

pub returns-clause-answer : goal.returns-clause-answer
returns-clause-answer c =
    λ catalog entry s answer is here good right held. true_answer catalog entry s is here right answer good held

pub returns-clause-fault : goal.returns-clause-fault
returns-clause-fault c = λ catalog entry s f is here right told. true_fault catalog entry s is here right f told
