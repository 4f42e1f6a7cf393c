use Rattle.std.proofs.Common.{◌≡◌, length, All}
use Rattle.live_nodes.proofs.live.LiveNode.open.Given as goal

abbrev pub invariant-loop : goal.invariant-loop
invariant-loop g l = (length l.all.items ≡ l.counter) × All (λ seat. seat ≡ 0) l.all.items
