use Rattle.std.proofs.Common.{map, take}
use Rattle.gossip_events.specs.Scripts.{SpellPlaces}
use Rattle.gossip_events.proofs.place.parse_script_tile_names.Given as goal

abbrev pub invariant-loop-word : goal.invariant-loop-word
invariant-loop-word l = SpellPlaces (map (λ w. w.now) (take l.word-index l.words)) l.items.items
