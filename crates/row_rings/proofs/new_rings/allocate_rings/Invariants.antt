use Rattle.std.proofs.Common.{◌≡◌, take}
use Rattle.row_rings.specs.RingRows.{ring_states}
use Rattle.row_rings.proofs.new_rings.allocate_rings.Given as goal

abbrev pub invariant-loop-state : goal.invariant-loop-state
invariant-loop-state g l = ring_states l.rings.items ≡ take l.state-index l.states
