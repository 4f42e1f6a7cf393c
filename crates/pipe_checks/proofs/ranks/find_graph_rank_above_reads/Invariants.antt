use Rattle.std.proofs.Common.{ℕ, ◌<◌, ◌^◌, ◌+◌, max, ◌≡◌, Some, None, map, drop, get_or, slice_get}
use Rattle.domains.specs.Greatest.{greatest}
use Rattle.pipe_checks.specs.inside.Search.{known_rank}
use Rattle.pipe_checks.proofs.ranks.find_graph_rank_above_reads.Given as goal

abbrev pub invariant-loop-stage : goal.invariant-loop-stage
invariant-loop-stage l =
    (max l.greatest (greatest (map (known_rank l.ranks) (drop l.stage-index l.stage-items)))
    ≡ greatest (map (known_rank l.ranks) l.stage-items))
    × ((k : ℕ) → k < l.stage-index → slice_get l.ranks (get_or l.stage-items k 0) ≡ Some None → ⊥)
    × (l.greatest + 1 < 2 ^ 64)
