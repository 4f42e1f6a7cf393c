use Rattle.job.specs.Kept.{pipeline_in}
use Rattle.part_stages.specs.Parts.{ArePartStages}
use Rattle.part_stages.proofs.part_finder.PartFinder.find_repeated_parts_of_stage.Given as goal

abbrev pub invariant-loop-place : goal.invariant-loop-place
invariant-loop-place l = ArePartStages (pipeline_in l.job) l.fn.self.parts → ArePartStages (pipeline_in l.job) l.self.parts
