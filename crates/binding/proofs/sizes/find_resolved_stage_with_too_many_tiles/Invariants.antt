use Rattle.binding.specs.Fits.{HaveFewTiles}
use Rattle.job.specs.Views.{pipeline_of}
use Rattle.binding.proofs.sizes.find_resolved_stage_with_too_many_tiles.Given as goal

abbrev pub invariant-loop-number : goal.invariant-loop-number
invariant-loop-number l = HaveFewTiles (pipeline_of l.pipeline) l.number
