use Rattle.std.proofs.Common.{rules}
use Rattle.domains.proofs.Areas.{inside_by_corners, outside_by_corner}
use Rattle.domains.proofs.area.Area.inside.Goals as goal

pub returns-then-holds : goal.returns-then-holds
returns-then-holds c =
    inside_by_corners c.args.self.now c.args.other.now _ _ _ _ _ c.lo.ensures.within c.lo-2.ensures.within (search rules) (search rules)
    (search rules) (search rules) (c.holds.ensures.0 c.if-holds.true) c.holds-then-holds.ensures

pub returns-else-holds : goal.returns-else-holds
returns-else-holds c =
    outside_by_corner c.args.self.now c.args.other.now _ _ _ c.lo.ensures.within c.lo-2.ensures.within (search rules) (search rules)
    c.if-holds.false c.holds.ensures
