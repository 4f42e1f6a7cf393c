use Rattle.std.proofs.Common.{length}
use Rattle.job.proofs.sameness.+has_same_input_tables.Given as goal

abbrev pub decreases-has_same_input_tables : goal.decreases-has_same_input_tables
decreases-has_same_input_tables l = length l.a.now
