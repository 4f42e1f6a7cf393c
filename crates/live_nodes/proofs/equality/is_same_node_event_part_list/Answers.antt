use Rattle.std.proofs.Common.{rules, arith}
use Rattle.live_nodes.proofs.SeenReceipts.{same_lists}
use Rattle.live_nodes.proofs.equality.is_same_node_event_part_list.Goals as goal

pub returns : goal.returns
returns g c = (
  λ _. same_lists _ _ c.if-a-b.false
      (λ k d low. c.loop-i.invariant k d (let past = c.loop-i-test.false in omega (arith, low, past))),
  λ _. search rules,
)
