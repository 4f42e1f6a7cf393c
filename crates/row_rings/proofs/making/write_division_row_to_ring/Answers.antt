use Rattle.std.proofs.Common.{arith, ℤ, ◌+ℤ◌, pos, map, refl, sym, subst, ◌∙◌}
use Rattle.std.specs.Option.{option_map}
use Rattle.job.specs.Reads.{EachRead}
use Rattle.job.specs.Values.{formula_value}
use Rattle.job.specs.Views.{case_view, formula_view}
use Rattle.wide_divisions.specs.DivisionSteps.{step_formula}
use Rattle.row_rings.specs.RingRows.{sample_in, IsKeptPoint}
use Rattle.row_rings.proofs.Areas.{only_row_held}
use Rattle.row_rings.proofs.Shapes.{formula_read, formula_everywhere}
use Rattle.row_rings.proofs.making.write_division_row_to_ring.Goals as goal

pub write_division_step-requires-clause-reads : goal.write_division_step-requires-clause-reads
write_division_step-requires-clause-reads c = λ k l.
    let area = c.args.area.now in
    let f = c.args.function.now in
    let points = c.from_area_top-points.ensures in
    let step = step_formula c.args.step.now in
    let Read : ℤ → ℤ → Type 0 = λ row col. EachRead (IsKeptPoint c.args.known.now.rings.items) step row (col +ℤ pos k) in
    subst (λ row. Read row c.from_area_top-points.result.col) (sym points.row)
    (subst (Read area.rows.lo) (sym points.col)
    (formula_read (IsKeptPoint c.args.known.now.rings.items) step (map case_view f.cases.items) (option_map formula_view f.otherwise)
    _ _ c.requires.formula
    (c.requires.row.function.reads _ _ (only_row_held area k c.requires.row.one (omega (arith, l, points.len))))))

pub returns-else-not-write_division_step : goal.returns-else-not-write_division_step
returns-else-not-write_division_step c = λ k h.
    let f = c.args.function.now in
    let points = c.from_area_top-points.ensures in
    let env = sample_in c.args.known.now.rings.items in
    let step = step_formula c.args.step.now in
    c.if-not-write_division_step.ensures refl k h
    ∙ (λ i. formula_value env step (points.row i) (points.col i +ℤ pos k))
    ∙ formula_everywhere env step (map case_view f.cases.items) (option_map formula_view f.otherwise) _ _ c.requires.formula
