use Rattle.std.proofs.Common.{◌≡◌, ℕ, Some, length}
use Rattle.std.specs.Prelude.{slice_get}
use Rattle.std.specs.List.{range_with_len}
use Rattle.job.specs.Kept.{pipeline_in}
use Rattle.grouping.specs.Greedy.{initial_grouping}
use Rattle.grouping.specs.inside.Standings.{Stands}
use Rattle.grouping.specs.declared.standing.StageStatus.{StageStatus}
use Rattle.grouping.proofs.greedy.Grouper.new.Given as goal

abbrev pub invariant-loop-number : goal.invariant-loop-number
invariant-loop-number l =
    (l.groups.items ≡ range_with_len 0 l.number)
    × (length l.standings.items ≡ l.number)
    × ((g : ℕ) (s : StageStatus) → slice_get l.standings.items g ≡ Some s
    → Stands (pipeline_in l.job) (initial_grouping (pipeline_in l.job)) g s)
