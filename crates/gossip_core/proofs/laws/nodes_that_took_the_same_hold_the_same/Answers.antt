use Rattle.gossip_core.proofs.Following.{leads_follows, same_takings}
use Rattle.gossip_core.proofs.laws.nodes_that_took_the_same_hold_the_same.Goals as goal

pub returns : goal.returns
returns c u size h accepted w n m leads same = same_takings accepted w n m (leads_follows u size h accepted w leads) same
