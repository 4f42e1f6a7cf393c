use Rattle.job.specs.Kept.{pipeline_in}
use Rattle.std.proofs.Common.{ℕ, Option, None, List, ap, ◌∙◌}
use Rattle.std.specs.Prelude.{slice_index_or}
use Rattle.std.specs.Option.{option_map_or}
use Rattle.grouping.proofs.GreedyIsTheRule.{stands_at_first}
use Rattle.grouping.proofs.greedy.new_stored_stage_status.Goals as goal

pub returns : goal.returns
returns c =
    stands_at_first (pipeline_in c.args.job.now) c.args.number c.find_cost_for_stage_status_or_zero-points.result c.in_ok-new_zero_scratch_of_group_tiles.field-0.items
    (c.find_cost_for_stage_status_or_zero-points.ensures
    ∙ ap (λ (costs : List (Option ℕ)). option_map_or (λ n. n) (slice_index_or costs c.args.number None) 0) c.requires.costs)
    c.in_ok-new_zero_scratch_of_group_tiles.ensures
