use Rattle.live_nodes.proofs.LongAccounts.{as_long}
use Rattle.live_nodes.proofs.laws.receipts_are_as_many_as_node_events.Goals as goal

pub returns : goal.returns
returns c = as_long
