use Rattle.std.proofs.Common.{◌≡◌}
use Rattle.tile_boxes.specs.Demands.{meet_of_areas}
use Rattle.tile_boxes.proofs.AreasMeet.{meet_is, near_if_meet}
use Rattle.tile_boxes.proofs.demands.intersect_boxes.Goals as goal
use Rattle.tile_boxes.proofs.demands.intersect_boxes.Goals.{After-meet}

is_meet : (c : After-meet) → c.meet.result ≡ meet_of_areas c.args.one.now c.args.other.now
is_meet c = meet_is c.args.one.now c.args.other.now c.meet.result c.meet.ensures.spans c.meet.ensures.within c.meet.ensures.none

pub returns-clause-is : goal.returns-clause-is
returns-clause-is c = is_meet c

pub returns-clause-near : goal.returns-clause-near
returns-clause-near c = near_if_meet c.args.one.now c.args.other.now c.meet.result (is_meet c)
