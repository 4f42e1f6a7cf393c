use Rattle.gossip_core.proofs.Headlines.{headline_of}
use Rattle.gossip_core.proofs.laws.headline.Goals as goal

pub returns : goal.returns
returns c u size h accepted w catalog good leads = headline_of u size h accepted w catalog good leads
