use Rattle.std.proofs.Common.{take}
use Rattle.row_plans.specs.Taken.{AddsCases}
use Rattle.row_plans.proofs.stage_rows_read.push_rows_read_in_cases.Given as goal

abbrev pub invariant-loop-case : goal.invariant-loop-case
invariant-loop-case l = AddsCases l.initial.found.items l.found.items (take l.case-index l.cases)
