use Rattle.std.proofs.Common.{◌+◌}
use Rattle.job.specs.Kept.{pipeline_in}
use Rattle.grouping.specs.inside.Trials.{AreTaken}
use Rattle.grouping.proofs.greedy.Grouper.tally_box_row.Given as goal

abbrev pub invariant-loop-col : goal.invariant-loop-col
invariant-loop-col l = AreTaken (pipeline_in l.job) l.self.inlining l.candidate.group l.candidate.number (l.first + l.col) l.taken
