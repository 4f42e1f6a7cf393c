use Rattle.gossip_core.proofs.MadeTruth.{made_true}
use Rattle.gossip_core.proofs.laws.facts_made_from_truth_are_true.Goals as goal

pub returns : goal.returns
returns c jobs s inlining fact catalog good right made = made_true jobs s inlining fact catalog good right made
