use Rattle.std.proofs.Common.{ap, ◌∙◌}
use Rattle.row_rings.specs.RingRows.{ring_states}
use Rattle.row_rings.proofs.Begun.{states_pushed}
use Rattle.row_rings.proofs.new_rings.allocate_rings.Goals as goal

pub loop-state-preserved : goal.loop-state-preserved
loop-state-preserved g c =
    ap ring_states c.in_ok-push.ensures.items
    ∙ states_pushed c.loop-state.rings.items c.in_ok-allocate_ring.field-0 c.args.states.now c.loop-state.state-index c.state-item.result
    c.loop-state-test.true c.state-item.is c.loop-state.invariant c.in_ok-allocate_ring.ensures
