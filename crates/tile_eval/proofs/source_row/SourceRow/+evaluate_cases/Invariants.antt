use Rattle.std.proofs.Common.{◌+◌, ◌*◌, length}
use Rattle.tile_eval.proofs.source_row.SourceRow.+evaluate_cases.Given as goal

abbrev pub decreases-evaluate_cases : goal.decreases-evaluate_cases
decreases-evaluate_cases g l = length l.cases.now * 2

abbrev pub decreases-evaluate_cases_on_part_of_row : goal.decreases-evaluate_cases_on_part_of_row
decreases-evaluate_cases_on_part_of_row g l = length l.cases.now * 2 + 1

abbrev pub decreases-evaluate_cases_where_earlier_fails : goal.decreases-evaluate_cases_where_earlier_fails
decreases-evaluate_cases_where_earlier_fails g l = length l.cases.now * 2 + 1
