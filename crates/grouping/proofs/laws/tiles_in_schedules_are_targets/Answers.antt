use Rattle.tile_boxes.proofs.TilesAreTargets.{tile_is_target}
use Rattle.grouping.proofs.laws.tiles_in_schedules_are_targets.Goals as goal

pub returns : goal.returns
returns c = tile_is_target
