use Rattle.std.proofs.Common.{◌≡◌, Some, map, take}
use Rattle.pipe_checks.proofs.ranks.unwrap_graph_ranks_if_all_known.Given as goal

abbrev pub invariant-loop-rank : goal.invariant-loop-rank
invariant-loop-rank l = map Some l.all.items ≡ take l.rank-index l.ranks
