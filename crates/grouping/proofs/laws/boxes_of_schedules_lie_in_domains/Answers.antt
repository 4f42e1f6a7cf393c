use Rattle.tile_boxes.proofs.BoxesLieInDomains.{box_inside, region_in_domain, all_listed}
use Rattle.grouping.proofs.laws.boxes_of_schedules_lie_in_domains.Goals as goal

pub returns-clause-boxes : goal.returns-clause-boxes
returns-clause-boxes c = box_inside

pub returns-clause-regions : goal.returns-clause-regions
returns-clause-regions c = region_in_domain

pub returns-clause-listed : goal.returns-clause-listed
returns-clause-listed c = all_listed
