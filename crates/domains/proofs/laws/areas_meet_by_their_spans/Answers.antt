use Rattle.domains.proofs.Areas.{common_is, hull_of_areas, area_hull_fits}
use Rattle.domains.proofs.laws.areas_meet_by_their_spans.Goals as goal

pub returns-clause-common : goal.returns-clause-common
returns-clause-common c = common_is

pub returns-clause-hull : goal.returns-clause-hull
returns-clause-hull c = hull_of_areas

pub returns-clause-fits : goal.returns-clause-fits
returns-clause-fits c = area_hull_fits
