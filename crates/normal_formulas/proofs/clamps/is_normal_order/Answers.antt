use Rattle.normal_formulas.proofs.Laws.{operands_exchanged}
use Rattle.normal_formulas.proofs.clamps.is_normal_order.Goals as goal

pub returns-after-matches : goal.returns-after-matches
returns-after-matches c = λ turned f g. operands_exchanged c.args.op f g c.in-Min.is
