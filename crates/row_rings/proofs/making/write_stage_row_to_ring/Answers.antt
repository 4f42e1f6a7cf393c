use Rattle.std.proofs.Common.{rules, arith, ◌≡◌, ◌+ℤ◌, pos, map, subst, sym, ap, ◌∙◌}
use Rattle.std.specs.Option.{option_map}
use Rattle.domains.specs.Span.{Ends}
use Rattle.job.specs.Kept.{pipeline_in}
use Rattle.job.specs.Views.{case_view, formula_view, body_view, stage_view}
use Rattle.row_plans.specs.Rows.{next_row}
use Rattle.row_rings.specs.RingRows.{sample_in, IsKeptPoint}
use Rattle.tile_eval.specs.Cases.{function_value, IsComputable}
use Rattle.row_rings.proofs.Values.{next_small, function_made, function_computable, plane_row, plane_made}
use Rattle.row_rings.proofs.making.write_stage_row_to_ring.Goals as goal

pub write_samples_to_ring-requires : goal.write_samples_to_ring-requires
write_samples_to_ring-requires c =
    plane_row (pipeline_in c.args.job.now) c.args.job.now.well c.args.known.now.rings.items c.args.stage c.args.state.now c.requires.can
    (stage_view c.in-Some.found.now) (sym c.in-Some.ensures) c.in-Plane.plane (ap body_view (sym c.body.ensures ∙ c.in-Plane.is))
    c.picture.result.now c.picture.ensures _ c.requires.count

pub overflow_cast-state : goal.overflow_cast-state
overflow_cast-state c =
    let small = next_small (pipeline_in c.args.job.now) c.args.job.now.well c.args.known.now.rings.items c.args.stage c.args.state.now
    c.requires.can in
    omega (arith, small)

pub write_function_row_to_ring-requires-clause-row : goal.write_function_row_to_ring-requires-clause-row
write_function_row_to_ring-requires-clause-row c =
    let f = c.in-Function.function in
    let row = c.find_span_number_at_position-row.result in
    let next : row ≡ next_row c.args.state.now = search rules in
    let rows : c.in-Some-new.rows ≡ record { lo = row; hi = row } = search rules in
    let computable =
    function_computable (pipeline_in c.args.job.now) c.args.job.now.well c.args.known.now.rings.items c.args.stage c.args.state.now
    c.requires.can (stage_view c.in-Some.found.now) (sym c.in-Some.ensures) (map case_view f.cases.items)
    (option_map formula_view f.otherwise) (ap body_view (sym c.body.ensures ∙ c.in-Function.is)) row next in
    record {
      one = ap (λ (e : Ends). e.hi) rows ∙ sym (ap (λ (e : Ends). e.lo) rows);
      function = subst (λ (e : Ends). IsComputable (IsKeptPoint c.args.known.now.rings.items) (record { rows = e; cols = c.args.state.now.area.cols })
          (map case_view f.cases.items) (option_map formula_view f.otherwise)) (sym rows) computable;
      count = c.requires.count;
      room = search rules;
    }

pub returns-in-Plane : goal.returns-in-Plane
returns-in-Plane c =
    plane_made (pipeline_in c.args.job.now) c.args.job.now.well c.args.known.now.rings.items c.args.stage c.args.state.now c.requires.can
    (stage_view c.in-Some.found.now) (sym c.in-Some.ensures) c.in-Plane.plane (ap body_view (sym c.body.ensures ∙ c.in-Plane.is))
    c.picture.result.now c.picture.ensures c.write_samples_to_ring.new.out (λ k h.
    c.write_samples_to_ring.ensures k (omega (arith, h, c.requires.count)))

pub returns-in-Some-new : goal.returns-in-Some-new
returns-in-Some-new c =
    let f = c.in-Function.function in
    let row = c.find_span_number_at_position-row.result in
    let next : row ≡ next_row c.args.state.now = search rules in
    let rows : c.in-Some-new.rows ≡ record { lo = row; hi = row } = search rules in
    function_made (pipeline_in c.args.job.now) c.args.job.now.well c.args.known.now.rings.items c.args.stage c.args.state.now
    c.requires.can (stage_view c.in-Some.found.now) (sym c.in-Some.ensures) c.requires.right (map case_view f.cases.items)
    (option_map formula_view f.otherwise) (ap body_view (sym c.body.ensures ∙ c.in-Function.is)) row next
    c.write_function_row_to_ring.new.out (λ k h.
    c.write_function_row_to_ring.ensures k (omega (arith, h, c.requires.count))
    ∙ ap (λ (e : Ends). function_value (sample_in c.args.known.now.rings.items) (map case_view f.cases.items)
    (option_map formula_view f.otherwise) e.lo (c.args.state.now.area.cols.lo +ℤ pos k)) rows)

pub returns-in_default-new : goal.returns-in_default-new
returns-in_default-new c =
    let f = c.in-Function.function in
    let row = c.find_span_number_at_position-row.result in
    let next : row ≡ next_row c.args.state.now = search rules in
    let computable =
    function_computable (pipeline_in c.args.job.now) c.args.job.now.well c.args.known.now.rings.items c.args.stage c.args.state.now
    c.requires.can (stage_view c.in-Some.found.now) (sym c.in-Some.ensures) (map case_view f.cases.items)
    (option_map formula_view f.otherwise) (ap body_view (sym c.body.ensures ∙ c.in-Function.is)) row next in
    let span = computable.rows.span in
    search rules
