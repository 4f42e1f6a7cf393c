use Rattle.std.proofs.Common.{◌*◌, length}
use Rattle.job.specs.Kept.{pipeline_in}
use Rattle.grouping.specs.inside.Trials.{AreTaken}
use Rattle.grouping.proofs.greedy.Grouper.tally_separable_boxes.Given as goal

abbrev pub invariant-loop-row : goal.invariant-loop-row
invariant-loop-row l =
    AreTaken (pipeline_in l.job) l.self.inlining l.candidate.group l.candidate.number (l.row * length l.cols) l.taken
