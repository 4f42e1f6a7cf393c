use Rattle.std.proofs.Common.{take}
use Rattle.gossip_events.specs.Scripts.{AreKeysOf}
use Rattle.gossip_events.proofs.naming.resolve_script_tile_names_to_keys.Given as goal

abbrev pub invariant-loop-place : goal.invariant-loop-place
invariant-loop-place l = AreKeysOf l.jobs (take l.place-index l.places) l.keys.items
