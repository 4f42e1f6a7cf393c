use Rattle.live_nodes.proofs.EndLaws.{all_counted}
use Rattle.live_nodes.proofs.live.LiveNode.close.Goals as goal

pub returns-in-Ok-clause-counted : goal.returns-in-Ok-clause-counted
returns-in-Ok-clause-counted g c = all_counted c.in-Ok.closed c.args.ends.items c.requires c.in-Ok.ensures.receipts

pub returns-in-Err-clause-fault : goal.returns-in-Err-clause-fault
returns-in-Err-clause-fault g c = (c.into_inner.result, c.in-Err.ensures.legal, c.in-Err.ensures.fault)
