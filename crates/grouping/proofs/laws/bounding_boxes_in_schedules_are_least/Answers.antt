use Rattle.tile_boxes.proofs.HullsAreLeast.{hull_is_least, no_hull}
use Rattle.grouping.proofs.laws.bounding_boxes_in_schedules_are_least.Goals as goal

pub returns-clause-some : goal.returns-clause-some
returns-clause-some c = hull_is_least

pub returns-clause-none : goal.returns-clause-none
returns-clause-none c = no_hull
