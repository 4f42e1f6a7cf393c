use Rattle.std.proofs.Common.{length}
use Rattle.job.proofs.sameness.+has_same_input_parameters.Given as goal

abbrev pub decreases-has_same_input_parameters : goal.decreases-has_same_input_parameters
decreases-has_same_input_parameters l = length l.a.now
