use Rattle.gossip_core.proofs.Following.{leads_follows}
use Rattle.gossip_core.proofs.laws.nodes_hold_what_they_took.Goals as goal

pub returns-clause-held : goal.returns-clause-held
returns-clause-held c u size h accepted w leads = (leads_follows u size h accepted w leads).holds

pub returns-clause-kept : goal.returns-clause-kept
returns-clause-kept c u size h accepted w leads = (leads_follows u size h accepted w leads).keeps
