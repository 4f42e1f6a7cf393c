use Rattle.gossip_core.proofs.PartLaws.{join_of_parts}
use Rattle.gossip_core.proofs.laws.nodes_hold_the_join_of_what_they_took.Goals as goal

pub returns : goal.returns
returns c u size h accepted w leads n = join_of_parts u size h accepted w leads n
