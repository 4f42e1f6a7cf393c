use Rattle.std.proofs.Common.{map, subst}
use Rattle.gossip_events.specs.Scripts.{FollowPlain}
use Rattle.gossip_events.specs.declared.verb.EventVerb.{EventVerb}
use Rattle.gossip_events.proofs.OrderLaws.{no_merge}
use Rattle.gossip_events.proofs.order_words.parse_event_without_job.Goals as goal

pub returns-in_err-node-in-Merge-clause-none : goal.returns-in_err-node-in-Merge-clause-none
returns-in_err-node-in-Merge-clause-none c =
    let words = map (λ w. w.now) c.args.words.now in
    rw (c.from_residual-in_err-node-in-Merge.ensures)
    (λ event follow. no_merge words c.in_err-node-in-Merge.ensures.none event
    (subst (λ (verb : EventVerb). FollowPlain verb words event) c.in-Merge.is follow))
