use Rattle.std.proofs.Common.{◌≡◌, ◌+◌, take}
use Rattle.gossip_core.specs.Finishing.{makings}
use Rattle.worlds.proofs.finishing.list_make_and_deliver_events_to_finish.Given as goal

abbrev pub invariant-loop-key : goal.invariant-loop-key
invariant-loop-key l =
    record {
      message : l.message ≡ l.fn.sent + l.key-index;
      events : l.events.items ≡ makings l.fn.n l.fn.sent (take l.key-index l.keys);
    }
