use Rattle.live_nodes.proofs.HistoryLaws.{replay_from-more, legal_from_less, legal_from_more}
use Rattle.live_nodes.specs.Histories.{new_node}
use Rattle.live_nodes.proofs.laws.node_events_are_replayed_one_by_one.Goals as goal

pub returns : goal.returns
returns c = record {
  replay = replay_from-more new_node;
  legal = λ h e. (legal_from_less new_node h e, λ both. legal_from_more new_node h e both.0 both.1);
}
