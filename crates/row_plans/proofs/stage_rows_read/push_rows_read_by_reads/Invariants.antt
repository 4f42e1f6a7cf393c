use Rattle.std.proofs.Common.{take}
use Rattle.row_plans.specs.Taken.{AddsReads}
use Rattle.row_plans.proofs.stage_rows_read.push_rows_read_by_reads.Given as goal

abbrev pub invariant-loop-read : goal.invariant-loop-read
invariant-loop-read l = AddsReads l.initial.found.items l.found.items l.rows (take l.read-index l.reads)
