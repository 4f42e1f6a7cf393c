use Rattle.std.proofs.Common.{rules}
use Rattle.domains.proofs.Areas.{counts_points}
use Rattle.domains.proofs.area.Area.points.Goals as goal

pub returns-clause-count : goal.returns-clause-count
returns-clause-count c = counts_points _ c.args.self.now (search rules)
