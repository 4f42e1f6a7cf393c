use Rattle.partials.proofs.PartialsJoin.{partials_join_to_answer_in_any_order}
use Rattle.accumulators.proofs.laws.partials_join_to_answer_in_any_order.Goals as goal

pub returns : goal.returns
returns c = partials_join_to_answer_in_any_order
