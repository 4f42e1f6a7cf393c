use Rattle.gossip_core.proofs.TruthLaws.{accepted_true}
use Rattle.gossip_core.proofs.laws.accepted_events_keep_truth.Goals as goal

pub returns : goal.returns
returns c u w new e catalog good all ok = accepted_true u w new e catalog good all ok
