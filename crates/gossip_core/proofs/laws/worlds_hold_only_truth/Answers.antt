use Rattle.gossip_core.proofs.TruthLaws.{worlds_true}
use Rattle.gossip_core.proofs.laws.worlds_hold_only_truth.Goals as goal

pub returns : goal.returns
returns c u size h accepted w catalog good leads = worlds_true u size h accepted w catalog good leads
