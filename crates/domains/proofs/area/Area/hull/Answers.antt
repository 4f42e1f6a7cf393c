use Rattle.domains.proofs.Areas.{area_hull_is}
use Rattle.domains.proofs.area.Area.hull.Goals as goal

pub returns-clause-least : goal.returns-clause-least
returns-clause-least c =
    let rows = c.hull.ensures.within in
    let cols = c.hull-2.ensures.within in
    area_hull_is _ _ _ _ (record { rows = rows.0; cols = cols.0 }) (record { rows = rows.1; cols = cols.1 }) c.hull.ensures.least
    c.hull-2.ensures.least
