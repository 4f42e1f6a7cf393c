use Rattle.std.proofs.Common.{◌≡◌, ◌+◌, ◌&&◌, drop}
use Rattle.tile_boxes.specs.Walks.{target_of}
use Rattle.tile_boxes.specs.Tallies.{points_over, all_have_scratch}
use Rattle.tile_boxes.proofs.target.BoxWalk.tally_stage_over_tile_areas.Given as goal

abbrev pub invariant-loop-area : goal.invariant-loop-area
invariant-loop-area l =
    (l.tally.points + points_over (target_of l.self) (drop l.area-index l.areas) ≡ points_over (target_of l.self) l.areas)
    × ((l.tally.fits && all_have_scratch (target_of l.self) (drop l.area-index l.areas)) ≡ all_have_scratch (target_of l.self) l.areas)
