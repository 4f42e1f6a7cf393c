use Rattle.std.proofs.Common.{◌≡◌, ◌++◌, map, drop}
use Rattle.std.specs.Prelude.{filter}
use Rattle.tile_boxes.specs.Schedules.{is_inlined}
use Rattle.overlap_tiles.specs.Views.{step_view}
use Rattle.overlap_tiles.proofs.steps.list_inlined_boxes_as_tile_plan_steps.Given as goal

abbrev pub invariant-loop-found : goal.invariant-loop-found
invariant-loop-found l =
    map step_view l.steps.items ++ filter (λ s. is_inlined l.schedule.inlining s.0) (drop l.found-index l.boxes) ≡ filter
    (λ s. is_inlined l.schedule.inlining s.0) l.boxes
