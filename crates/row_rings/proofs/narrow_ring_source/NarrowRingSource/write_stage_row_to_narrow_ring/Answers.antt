use Rattle.std.proofs.Common.{arith, ◌+ℤ◌, pos, map, subst, sym, ap, ◌∙◌}
use Rattle.std.specs.Option.{option_map}
use Rattle.job.specs.Kept.{pipeline_in}
use Rattle.job.specs.Values.{value}
use Rattle.job.specs.Views.{case_view, formula_view, body_view, stage_view}
use Rattle.tile_eval.specs.Cases.{function_value}
use Rattle.row_rings.specs.RingShapes.{IsShapeOf}
use Rattle.row_rings.proofs.Values.{columns_some, rows_range, cols_range, narrow_made, narrow_reads, narrow_fits, narrow_computable, plane_row, plane_fits, plane_made}
use Rattle.row_rings.proofs.narrow_ring_source.NarrowRingSource.write_stage_row_to_narrow_ring.Goals as goal

pub write_samples_to_narrow_ring-requires-clause-row : goal.write_samples_to_narrow_ring-requires-clause-row
write_samples_to_narrow_ring-requires-clause-row c =
    let self = c.args.self.now in
    plane_row (pipeline_in self.job.now) self.job.now.well self.known.now.rings.items c.args.stage c.args.state.now c.requires.can
    (stage_view c.in-Some.found.now) (sym c.in-Some.ensures) c.in-Plane.plane (ap body_view (sym c.body.ensures ∙ c.in-Plane.is))
    c.picture.result.now c.picture.ensures _ c.requires.count

pub write_samples_to_narrow_ring-requires-clause-fits : goal.write_samples_to_narrow_ring-requires-clause-fits
write_samples_to_narrow_ring-requires-clause-fits c =
    let self = c.args.self.now in
    plane_fits (pipeline_in self.job.now) self.job.now.well self.known.now.rings.items c.args.stage c.args.state.now c.requires.can
    (stage_view c.in-Some.found.now) (sym c.in-Some.ensures) c.in-Plane.plane (ap body_view (sym c.body.ensures ∙ c.in-Plane.is))
    c.picture.result.now c.picture.ensures c.requires.fits

pub from_area_row-points-requires-clause-rows : goal.from_area_row-points-requires-clause-rows
from_area_row-points-requires-clause-rows c =
    let self = c.args.self.now in
    rows_range (pipeline_in self.job.now) self.job.now.well self.known.now.rings.items c.args.stage c.args.state.now c.requires.can

pub from_area_row-points-requires-clause-cols : goal.from_area_row-points-requires-clause-cols
from_area_row-points-requires-clause-cols c =
    let self = c.args.self.now in
    cols_range (pipeline_in self.job.now) self.job.now.well self.known.now.rings.items c.args.stage c.args.state.now c.requires.can

pub write_shaped_row_to_narrow_ring-requires-clause-some : goal.write_shaped_row_to_narrow_ring-requires-clause-some
write_shaped_row_to_narrow_ring-requires-clause-some c =
    let self = c.args.self.now in
    let some = columns_some (pipeline_in self.job.now) self.job.now.well self.known.now.rings.items c.args.stage c.args.state.now
    c.requires.can in
    omega (arith, some, c.requires.count)

pub write_shaped_row_to_narrow_ring-requires-clause-shape : goal.write_shaped_row_to_narrow_ring-requires-clause-shape
write_shaped_row_to_narrow_ring-requires-clause-shape c =
    subst (IsShapeOf c.args.shape.now) (ap body_view (sym c.body.ensures ∙ c.in-Function.is))
    (c.requires.shape (stage_view c.in-Some.found.now) (sym c.in-Some.ensures))

pub write_shaped_row_to_narrow_ring-requires-clause-reads : goal.write_shaped_row_to_narrow_ring-requires-clause-reads
write_shaped_row_to_narrow_ring-requires-clause-reads c =
    let self = c.args.self.now in
    let f = c.in-Function.function in
    rw (c.from_area_row-points.ensures.row, c.from_area_row-points.ensures.col)
    (narrow_reads (pipeline_in self.job.now) self.job.now.well self.known.now.rings.items c.args.stage c.args.state.now
    c.requires.can (stage_view c.in-Some.found.now) (sym c.in-Some.ensures) (map case_view f.cases.items)
    (option_map formula_view f.otherwise) (ap body_view (sym c.body.ensures ∙ c.in-Function.is)) _ c.requires.count)

pub write_shaped_row_to_narrow_ring-requires-clause-values : goal.write_shaped_row_to_narrow_ring-requires-clause-values
write_shaped_row_to_narrow_ring-requires-clause-values c =
    let self = c.args.self.now in
    let f = c.in-Function.function in
    rw (c.from_area_row-points.ensures.row, c.from_area_row-points.ensures.col)
    (narrow_fits (pipeline_in self.job.now) self.job.now.well self.known.now.rings.items c.args.stage c.args.state.now
    c.requires.can (stage_view c.in-Some.found.now) (sym c.in-Some.ensures) c.requires.fits (map case_view f.cases.items)
    (option_map formula_view f.otherwise) (ap body_view (sym c.body.ensures ∙ c.in-Function.is)) _ c.requires.count)

pub write_shaped_row_to_narrow_ring-requires-clause-function : goal.write_shaped_row_to_narrow_ring-requires-clause-function
write_shaped_row_to_narrow_ring-requires-clause-function c = λ plain.
    let self = c.args.self.now in
    let f = c.in-Function.function in
    rw (c.from_area_row-points.ensures.row, c.from_area_row-points.ensures.col)
    (narrow_computable (pipeline_in self.job.now) self.job.now.well self.known.now.rings.items c.args.stage c.args.state.now
    c.requires.can (stage_view c.in-Some.found.now) (sym c.in-Some.ensures) (map case_view f.cases.items)
    (option_map formula_view f.otherwise) (ap body_view (sym c.body.ensures ∙ c.in-Function.is)) c.args.shape.now c.requires.narrow plain _ c.requires.room _
    c.requires.count)

pub returns-in-Plane : goal.returns-in-Plane
returns-in-Plane c =
    let self = c.args.self.now in
    plane_made (pipeline_in self.job.now) self.job.now.well self.known.now.rings.items c.args.stage c.args.state.now c.requires.can
    (stage_view c.in-Some.found.now) (sym c.in-Some.ensures) c.in-Plane.plane (ap body_view (sym c.body.ensures ∙ c.in-Plane.is))
    c.picture.result.now c.picture.ensures c.write_samples_to_narrow_ring.new.out (λ k h.
    c.write_samples_to_narrow_ring.ensures k (omega (arith, h, c.requires.count)))

pub returns-in-Function : goal.returns-in-Function
returns-in-Function c =
    let self = c.args.self.now in
    let f = c.in-Function.function in
    let points = c.from_area_row-points.ensures in
    narrow_made (pipeline_in self.job.now) self.job.now.well self.known.now.rings.items c.args.stage c.args.state.now
    c.requires.can (stage_view c.in-Some.found.now) (sym c.in-Some.ensures) (map case_view f.cases.items)
    (option_map formula_view f.otherwise) (ap body_view (sym c.body.ensures ∙ c.in-Function.is))
    c.write_shaped_row_to_narrow_ring.new.out (λ k h.
    c.write_shaped_row_to_narrow_ring.ensures k (omega (arith, h, c.requires.count))
    ∙ (λ i. function_value (value (pipeline_in self.job.now)) (map case_view f.cases.items) (option_map formula_view f.otherwise)
    (points.row i) (points.col i +ℤ pos k)))
