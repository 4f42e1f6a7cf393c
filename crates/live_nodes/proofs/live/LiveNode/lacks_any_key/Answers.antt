use Rattle.live_nodes.proofs.live.LiveNode.lacks_any_key.Goals as goal

pub returns : goal.returns
returns g c =
    let told = c.lacks_any_key.ensures in record { history = c.deref.result.now; legal = told.legal; truth = told.truth; given = told.lacking }
