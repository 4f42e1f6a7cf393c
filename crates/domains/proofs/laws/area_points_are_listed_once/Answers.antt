use Rattle.domains.proofs.Areas.{Contains-points_of, points_in_order}
use Rattle.domains.proofs.laws.area_points_are_listed_once.Goals as goal

pub returns-clause-all : goal.returns-clause-all
returns-clause-all c = Contains-points_of

pub returns-clause-order : goal.returns-clause-order
returns-clause-order c = points_in_order
