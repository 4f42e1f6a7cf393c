use Rattle.job.specs.Kept.{pipeline_in}
use Rattle.part_stages.specs.Parts.{ArePartStages}
use Rattle.part_stages.proofs.part_finder.PartFinder.find_column_stages.Given as goal

abbrev pub invariant-loop-reader : goal.invariant-loop-reader
invariant-loop-reader l = ArePartStages (pipeline_in l.job) l.fn.self.parts → ArePartStages (pipeline_in l.job) l.self.parts
