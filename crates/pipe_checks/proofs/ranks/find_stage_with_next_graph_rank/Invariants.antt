use Rattle.std.proofs.Common.{ℕ, ◌<◌, ◌≡◌, Some, None, slice_get}
use Rattle.pipe_checks.specs.Graph.{links_at}
use Rattle.pipe_checks.specs.inside.Search.{SomeUnranked}
use Rattle.pipe_checks.proofs.ranks.find_stage_with_next_graph_rank.Given as goal

abbrev pub invariant-loop-stage : goal.invariant-loop-stage
invariant-loop-stage l = (s : ℕ) → s < l.stage → slice_get l.ranks s ≡ Some None → SomeUnranked l.ranks (links_at l.graph s).reads
