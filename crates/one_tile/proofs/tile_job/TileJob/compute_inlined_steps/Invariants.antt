use Rattle.std.proofs.Common.{◌≡◌, ◌-◌, length}
use Rattle.job.specs.Kept.{pipeline_in}
use Rattle.scratch.specs.Lending.{numbers_of}
use Rattle.one_tile.specs.inside.Steps.{AreComputed}
use Rattle.one_tile.proofs.tile_job.TileJob.compute_inlined_steps.Given as goal

abbrev pub invariant-loop-place : goal.invariant-loop-place
invariant-loop-place g l = record {
  size : length (numbers_of l.scratch) ≡ length (numbers_of l.fn.scratch);
  computed : AreComputed (pipeline_in l.self.job.now) l.self.layout.now (g.K.TileSource.given l.self.known.now) (numbers_of l.scratch)
      (l.place - 1);
}
