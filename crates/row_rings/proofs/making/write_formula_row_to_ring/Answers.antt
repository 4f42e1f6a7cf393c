use Rattle.std.proofs.Common.{arith, ℤ, ◌≡◌, ◌<◌, Some, length, map, sym, ap, ◌∙◌}
use Rattle.std.specs.Option.{option_map}
use Rattle.std.proofs.lemmas.Int.{ints}
use Rattle.domains.proofs.Lengths.{len_is}
use Rattle.job.proofs.Agreeing.{All-right}
use Rattle.job.proofs.Steps.{other_each}
use Rattle.job.specs.Reads.{other_formula}
use Rattle.job.specs.Views.{case_view, formula_view}
use Rattle.job.specs.WellFormed.{IsFormula}
use Rattle.tile_eval.specs.Cases.{function_value}
use Rattle.tile_eval.proofs.Gathering.{reads_along}
use Rattle.row_rings.specs.RingRows.{sample_in, IsKeptPoint}
use Rattle.row_rings.specs.inside.Making.{row_area}
use Rattle.row_rings.proofs.Areas.{only_row_held, raster_row}
use Rattle.row_rings.proofs.making.write_formula_row_to_ring.Goals as goal

pub evaluate_formula-requires-clause-reads : goal.evaluate_formula-requires-clause-reads
evaluate_formula-requires-clause-reads c =
    let area = c.args.area.now in
    let f = c.args.function.now in
    let row = c.requires.row in
    let formula = formula_view c.in-empty-Some.formula in
    let only : option_map formula_view f.otherwise ≡ Some formula =
    ap (option_map formula_view) (sym c.otherwise.ensures ∙ c.in-empty-Some.is-1) in
    let ordered = row.function.cols.span.ordered in
    let some : 0 < length c.args.out.now = omega (arith, ints, len_is area.cols row.function.cols.span, ordered, row.count) in
    let is : IsFormula formula =
    other_each IsFormula (option_map formula_view f.otherwise)
    (All-right IsFormula (map (λ p. p.formula) (map case_view f.cases.items)) (other_formula (option_map formula_view f.otherwise)) row.function.formulas)
    formula only in
    rw (c.from_area_top-points.ensures.row, c.from_area_top-points.ensures.col)
    (reads_along (IsKeptPoint c.args.known.now.rings.items) area.rows.lo area.cols.lo (length c.args.out.now) formula some is (λ k l.
    (row.function.reads _ _ (only_row_held area k row.one (omega (arith, l, row.count)))).1 formula only))

pub returns-in_default : goal.returns-in_default
returns-in_default c = λ k h.
    let area = c.args.area.now in
    let f = c.args.function.now in
    let is : area ≡ row_area area area.rows.lo =
    ap (λ (z : ℤ). record { rows = record { lo = area.rows.lo; hi = z }; cols = area.cols }) c.requires.row.one in
    raster_row area area
    (function_value (sample_in c.args.known.now.rings.items) (map case_view f.cases.items) (option_map formula_view f.otherwise))
    area.rows.lo c.evaluate_function_area.new.out is c.evaluate_function_area.ensures k (omega (arith, h, c.requires.row.count))
