use Rattle.std.proofs.Common.{◌≡◌, ◌++◌, ◌-◌, ◌+ℤ◌, pos, map}
use Rattle.domains.specs.Area.{points_of}
use Rattle.domains.specs.Span.{len_of, numbers_of}
use Rattle.job.specs.Kept.{pipeline_in}
use Rattle.tile_sources.specs.KnownTiles.{given_at}
use Rattle.pictures.proofs.PictureOfAnswer.{sample_at}
use Rattle.tile_eval.proofs.RowByRow.{rest_of}
use Rattle.pictures.proofs.picture.SuppliedJob.push_area_samples.Given as goal

abbrev pub invariant-loop-place : goal.invariant-loop-place
invariant-loop-place g l =
    let at = sample_at (given_at (pipeline_in l.fn.self.job.now) (g.K.TileSource.given l.fn.self.known.now)) l.fn.sheet.plane.max l.fn.stage in
    record {
      max : l.sheet.plane.max ≡ l.fn.sheet.plane.max;
      samples : l.sheet.plane.samples
          ++ rest_of at (l.fn.area.rows.lo +ℤ pos l.place) (len_of l.fn.area.rows - l.place) (numbers_of l.fn.area.cols)
          ≡ l.fn.sheet.plane.samples ++ map at (points_of l.fn.area);
    }
