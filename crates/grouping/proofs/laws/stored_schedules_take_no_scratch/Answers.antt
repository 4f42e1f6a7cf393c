use Rattle.tile_boxes.proofs.BoxesLieInDomains.{no_scratch, own_points}
use Rattle.grouping.proofs.laws.stored_schedules_take_no_scratch.Goals as goal

pub returns-clause-scratch : goal.returns-clause-scratch
returns-clause-scratch c = no_scratch

pub returns-clause-points : goal.returns-clause-points
returns-clause-points c = own_points
