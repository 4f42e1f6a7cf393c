use Rattle.std.proofs.Common.{◌+◌, ◌*◌, length}
use Rattle.narrow_eval.proofs.narrow_points.NarrowPoints.+evaluate_narrow_cases.Given as goal

abbrev pub decreases-evaluate_narrow_cases : goal.decreases-evaluate_narrow_cases
decreases-evaluate_narrow_cases g l = length l.cases.now * 2

abbrev pub decreases-evaluate_narrow_cases_on_part : goal.decreases-evaluate_narrow_cases_on_part
decreases-evaluate_narrow_cases_on_part g l = length l.cases.now * 2 + 1

abbrev pub decreases-evaluate_narrow_cases_where_earlier_fails : goal.decreases-evaluate_narrow_cases_where_earlier_fails
decreases-evaluate_narrow_cases_where_earlier_fails g l = length l.cases.now * 2 + 1
