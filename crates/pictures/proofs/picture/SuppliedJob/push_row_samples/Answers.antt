use Rattle.std.proofs.Common.{rules, arith, ℤ, ◌≡◌, ◌<◌, ◌++◌, ◌+ℤ◌, pos, map, refl, sym, ◌∙◌, to_z, of_z, w32, FitsSigned}
use Rattle.std.proofs.lemmas.Int.{to_z-of_z}
use Rattle.std.proofs.lemmas.List.{append-nil}
use Rattle.domains.specs.Span.{numbers_from}
use Rattle.job.specs.Answers.{sample_of}
use Rattle.job.specs.Kept.{pipeline_in}
use Rattle.tile_sources.specs.KnownTiles.{given_at}
use Rattle.pictures.proofs.PlanesRowByRow.{line_bounds, line_rest, cut_on}
use Rattle.pictures.proofs.picture.SuppliedJob.push_row_samples.Goals as goal

pub loop-done-init : goal.loop-done-init
loop-done-init g c = record { max = refl; most = search rules; samples = sym (append-nil c.args.sheet.now.plane.samples) }

pub compute_coordinate_at_place-from-requires : goal.compute_coordinate_at_place-from-requires
compute_coordinate_at_place-from-requires g c =
    let first : FitsSigned w32 c.args.first = search rules in
    let within : c.loop-done.done < c.args.count = search rules in
    let bounds = line_bounds (pipeline_in c.args.self.now.job.now) (g.K.TileSource.given c.args.self.now.known.now) c.args.stage c.args.row
    c.args.first c.args.count c.requires c.args.self.now.job.now.well c.loop-done.done within in
    record {
      least = rw (to_z-of_z w32 c.args.first first) bounds.0;
      most = rw (to_z-of_z w32 c.args.first first) bounds.1;
    }

pub borrow_supplied_row_up_to_tile_end-part-requires-clause-given : goal.borrow_supplied_row_up_to_tile_end-part-requires-clause-given
borrow_supplied_row_up_to_tile_end-part-requires-clause-given g c =
    let row : FitsSigned w32 c.args.row = search rules in
    let first : FitsSigned w32 c.args.first = search rules in
    let from : FitsSigned w32 c.compute_coordinate_at_place-from.result = search rules in
    line_rest (pipeline_in c.args.self.now.job.now) (g.K.TileSource.given c.args.self.now.known.now) c.args.stage c.args.row c.args.first
    c.args.count c.requires _ _ c.loop-done.done _ (to_z-of_z w32 c.args.row row) (to_z-of_z w32 c.compute_coordinate_at_place-from.result from
    ∙ c.compute_coordinate_at_place-from.ensures ∙ (λ i. to_z-of_z w32 c.args.first first i +ℤ pos c.loop-done.done)) (omega arith)

pub loop-done-preserved : goal.loop-done-preserved
loop-done-preserved g c =
    let from : FitsSigned w32 c.compute_coordinate_at_place-from.result = search rules in
    record {
      max = c.in_ok-push_values_as_clamped_samples.ensures.max ∙ c.loop-done.invariant.max;
      most = omega (arith, c.borrow_supplied_row_up_to_tile_end-part.ensures.most);
      samples =
          cut_on (given_at (pipeline_in c.args.self.now.job.now) (g.K.TileSource.given c.args.self.now.known.now) c.args.stage
          (to_z w32 (of_z w32 c.args.row)))
          (sample_of c.args.sheet.now.plane.max) (to_z w32 (of_z w32 c.args.first)) (to_z w32 (of_z w32 c.compute_coordinate_at_place-from.result)) c.loop-done.done
          c.borrow_supplied_row_up_to_tile_end-part.result.now c.args.sheet.now.plane.samples c.loop-done.sheet.plane.samples c.push_values_as_clamped_samples.new.sheet.plane.samples
          (to_z-of_z w32 c.compute_coordinate_at_place-from.result from ∙ c.compute_coordinate_at_place-from.ensures) c.borrow_supplied_row_up_to_tile_end-part.ensures.numbers
          c.loop-done.invariant.samples (c.in_ok-push_values_as_clamped_samples.ensures.samples
          ∙ (λ i. c.loop-done.sheet.plane.samples ++ map (sample_of (c.loop-done.invariant.max i)) c.borrow_supplied_row_up_to_tile_end-part.result.now));
    }

pub returns-clause-samples : goal.returns-clause-samples
returns-clause-samples g c =
    let row : FitsSigned w32 c.args.row = search rules in
    let first : FitsSigned w32 c.args.first = search rules in
    let f : ℤ → ℤ → ℤ = given_at (pipeline_in c.args.self.now.job.now) (g.K.TileSource.given c.args.self.now.known.now) c.args.stage in
    let past : c.loop-done.done ≡ c.args.count = omega (arith, c.loop-done.invariant.most, c.loop-done-test.false) in
    c.loop-done.invariant.samples
    ∙ (λ i. c.args.sheet.now.plane.samples
    ++ map (λ z. sample_of c.args.sheet.now.plane.max (f (to_z-of_z w32 c.args.row row i) z)) (numbers_from (to_z-of_z w32 c.args.first first i) (past i)))
