use Rattle.job.specs.Kept.{pipeline_in}
use Rattle.part_stages.specs.Parts.{ArePartStages}
use Rattle.part_stages.proofs.part_finder.list_whole_parts.Given as goal

abbrev pub invariant-loop-number : goal.invariant-loop-number
invariant-loop-number l = ArePartStages (pipeline_in l.job) l.parts
