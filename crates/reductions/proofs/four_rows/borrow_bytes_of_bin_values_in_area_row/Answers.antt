use Rattle.std.proofs.Common.{◌∙◌}
use Rattle.std.proofs.lemmas.Option.{IfSome_then}
use Rattle.job.specs.Values.{Valuation, formula_value}
use Rattle.job.specs.Views.{formula_view}
use Rattle.reductions.specs.inside.Gathering.{values_along}
use Rattle.reductions.proofs.FourRows.{row_reads}
use Rattle.reductions.proofs.TakeValues.{bytes_is}
use Rattle.reductions.proofs.four_rows.borrow_bytes_of_bin_values_in_area_row.Goals as goal

pub borrow_bytes_of_read_along_row-requires : goal.borrow_bytes_of_read_along_row-requires
borrow_bytes_of_read_along_row-requires g c =
    let start = c.from_area_row-points in
    row_reads (g.S.RowSource.has c.args.source.now) (formula_view c.args.value.now) c.args.area.now c.args.row start.result.row start.result.col
    start.result.len start.ensures.row start.ensures.col start.ensures.len c.requires.rows c.requires.cols c.requires.row c.requires.formula
    c.requires.reads

pub returns : goal.returns
returns g c =
    let start = c.from_area_row-points in
    let env : Valuation = g.S.RowSource.samples c.args.source.now in
    let f = formula_view c.args.value.now in
    IfSome_then c.borrow_bytes_of_read_along_row.result c.borrow_bytes_of_read_along_row.ensures (λ bytes is.
    bytes_is (formula_value env f start.result.row) start.result.col start.result.len bytes.now is.0 is.1
    ∙ (λ i. values_along env f (start.ensures.row i) (start.ensures.col i) (start.ensures.len i)))
