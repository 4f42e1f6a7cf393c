use Rattle.std.proofs.Common.{All, take}
use Rattle.binding.specs.Fits.{HasSides}
use Rattle.job.specs.Views.{pipeline_of}
use Rattle.binding.proofs.sizes.are_resolved_stages_of_exact_size.Given as goal

abbrev pub invariant-loop-stage : goal.invariant-loop-stage
invariant-loop-stage l = All (HasSides (pipeline_of l.pipeline) l.rows l.columns) (take l.stage-index l.stages)
