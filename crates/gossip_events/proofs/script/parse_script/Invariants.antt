use Rattle.std.proofs.Common.{◌≡◌, length, take}
use Rattle.gossip_events.specs.Scripts.{AreEvents, lines}
use Rattle.gossip_events.proofs.script.parse_script.Given as goal

abbrev pub invariant-loop-line : goal.invariant-loop-line
invariant-loop-line l = record {
  count : l.number ≡ length l.yielded;
  told : AreEvents l.jobs (take l.number (lines l.text))
      l.events.items;
}
