use Rattle.job.proofs.Solving.{ranked_is}
use Rattle.tile_boxes.proofs.BoxesFollowTheRule.{box_follows}
use Rattle.grouping.proofs.laws.boxes_of_schedules_bound_demands.Goals as goal

pub returns : goal.returns
returns c = λ t g job. box_follows t g (ranked_is t.job job)
