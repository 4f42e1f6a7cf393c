use Rattle.std.proofs.Common.{◌≡◌, ◌≤◌, ◌-◌, ◌++◌, map}
use Rattle.domains.specs.Span.{numbers_from}
use Rattle.job.specs.Answers.{sample_of}
use Rattle.job.specs.Kept.{pipeline_in}
use Rattle.tile_sources.specs.KnownTiles.{given_at}
use Rattle.pictures.proofs.picture.SuppliedJob.push_row_samples.Given as goal

abbrev pub invariant-loop-done : goal.invariant-loop-done
invariant-loop-done g l = record {
  max : l.sheet.plane.max ≡ l.fn.sheet.plane.max;
  most : l.done ≤ l.fn.count;
  samples : l.sheet.plane.samples
      ≡ l.fn.sheet.plane.samples
      ++ map (λ z. sample_of l.fn.sheet.plane.max (given_at (pipeline_in l.fn.self.job.now) (g.K.TileSource.given l.fn.self.known.now) l.fn.stage l.fn.row z))
      (numbers_from l.fn.first l.done);
}

abbrev pub decreases-loop-done : goal.decreases-loop-done
decreases-loop-done g l = l.fn.count - l.done
