use Rattle.std.proofs.Common.{◌≡◌, replicate}
use Rattle.gossip_core.specs.Steps.{no_states}
use Rattle.worlds.proofs.network.WorldNetwork.new.Given as goal

abbrev pub invariant-loop : goal.invariant-loop
invariant-loop g l = l.nodes.items ≡ replicate l.counter no_states
