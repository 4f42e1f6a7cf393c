use Rattle.std.proofs.Common.{rules, arith, ℕ, ℤ, List, ◌≡◌, ◌++◌, ◌-◌, ◌+ℤ◌, ◌<◌, pos, map, refl, ap, ◌∙◌, to_z, of_z, w32, FitsSigned}
use Rattle.std.proofs.lemmas.Int.{to_z-of_z}
use Rattle.domains.specs.Area.{points_of}
use Rattle.domains.specs.Span.{len_of, numbers_from, numbers_of}
use Rattle.job.specs.Kept.{pipeline_in}
use Rattle.tile_sources.specs.KnownTiles.{given_at}
use Rattle.pictures.proofs.PictureOfAnswer.{sample_at}
use Rattle.tile_eval.proofs.RowByRow.{none_made, row_made}
use Rattle.pictures.proofs.PlanesRowByRow.{row_given}
use Rattle.pictures.proofs.RowsLeft.{no_row_left}
use Rattle.pictures.proofs.picture.SuppliedJob.push_area_samples.Goals as goal

pub loop-place-init : goal.loop-place-init
loop-place-init g c =
    let h : ℤ × ℤ → ℕ =
    sample_at (given_at (pipeline_in c.args.self.now.job.now) (g.K.TileSource.given c.args.self.now.known.now)) c.args.sheet.now.plane.max c.args.stage in
    record { max = refl; samples = ap (λ (xs : List ℕ). c.args.sheet.now.plane.samples ++ xs) (none_made h c.args.area.now) }

pub push_row_samples-requires : goal.push_row_samples-requires
push_row_samples-requires g c =
    let area = c.args.area.now in
    let row_fits : FitsSigned w32 c.find_span_number_at_position-row.result = search rules in
    let first_fits : FitsSigned w32 c.lo-first.result = search rules in
    let within : c.loop-place.place < len_of area.rows = omega arith in
    row_given (pipeline_in c.args.self.now.job.now) (g.K.TileSource.given c.args.self.now.known.now) c.args.stage area c.requires
    (to_z w32 (of_z w32 c.find_span_number_at_position-row.result)) (to_z w32 (of_z w32 c.lo-first.result)) c.loop-place.place c.len-count.result within
    (to_z-of_z w32 c.find_span_number_at_position-row.result row_fits ∙ c.find_span_number_at_position-row.ensures) (to_z-of_z w32 c.lo-first.result first_fits
    ∙ c.lo-first.ensures.end) c.len-count.ensures.number

pub loop-place-preserved : goal.loop-place-preserved
loop-place-preserved g c =
    let h : ℤ × ℤ → ℕ =
    sample_at (given_at (pipeline_in c.args.self.now.job.now) (g.K.TileSource.given c.args.self.now.known.now)) c.args.sheet.now.plane.max c.args.stage in
    let area = c.args.area.now in
    let within : c.loop-place.place < len_of area.rows = omega arith in
    let row_fits : FitsSigned w32 c.find_span_number_at_position-row.result = search rules in
    let first_fits : FitsSigned w32 c.lo-first.result = search rules in
    let row : to_z w32 (of_z w32 c.find_span_number_at_position-row.result) ≡ c.find_span_number_at_position-row.result = to_z-of_z w32 c.find_span_number_at_position-row.result row_fits in
    let first : to_z w32 (of_z w32 c.lo-first.result) ≡ area.cols.lo = to_z-of_z w32 c.lo-first.result first_fits
    ∙ c.lo-first.ensures.end in
    record {
      max = c.in_ok-push_row_samples.ensures.max ∙ c.loop-place.invariant.max;
      samples =
          row_made h area.rows.lo c.find_span_number_at_position-row.result c.loop-place.place (len_of area.rows) (numbers_of area.cols)
          c.loop-place.sheet.plane.samples c.push_row_samples.new.sheet.plane.samples (c.args.sheet.now.plane.samples ++ map h (points_of area)) within
          c.find_span_number_at_position-row.ensures c.loop-place.invariant.samples (c.in_ok-push_row_samples.ensures.samples
          ∙ (λ i. c.loop-place.sheet.plane.samples ++ map (λ (z : ℤ). sample_at (given_at (pipeline_in c.args.self.now.job.now)
          (g.K.TileSource.given c.args.self.now.known.now)) (c.loop-place.invariant.max i) c.args.stage (row i, z))
          (numbers_from (first i) (c.len-count.ensures.number i))));
    }

pub returns-clause-samples : goal.returns-clause-samples
returns-clause-samples g c =
    let area = c.args.area.now in
    let h : ℤ × ℤ → ℕ =
    sample_at (given_at (pipeline_in c.args.self.now.job.now) (g.K.TileSource.given c.args.self.now.known.now)) c.args.sheet.now.plane.max c.args.stage in
    no_row_left h (area.rows.lo +ℤ pos c.loop-place.place) (len_of area.rows - c.loop-place.place) (numbers_of area.cols)
    c.loop-place.sheet.plane.samples (c.args.sheet.now.plane.samples ++ map h (points_of area)) (omega arith) c.loop-place.invariant.samples
