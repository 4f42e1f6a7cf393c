use Rattle.std.proofs.Common.{◌≡◌, None, replicate}
use Rattle.pipe_checks.proofs.ranks.init_unknown_graph_ranks.Given as goal

abbrev pub invariant-loop : goal.invariant-loop
invariant-loop l = l.all.items ≡ replicate l.counter None
