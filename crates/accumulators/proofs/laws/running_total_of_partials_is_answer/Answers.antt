use Rattle.accumulators.proofs.TakenPartials.{taken_partials}
use Rattle.accumulators.proofs.laws.running_total_of_partials_is_answer.Goals as goal

pub returns : goal.returns
returns c = taken_partials
