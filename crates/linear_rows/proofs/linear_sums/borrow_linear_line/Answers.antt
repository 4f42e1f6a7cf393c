use Rattle.std.proofs.Common.{rules, ℤ, ◌≡◌, ◌+ℤ◌, ◌*ℤ◌, pos, to_z, of_z, w16, w32, FitsSigned, ap, ◌∙◌, sym, subst}
use Rattle.std.proofs.lemmas.Int.{to_z-of_z}
use Rattle.domains.specs.Index.{index_at}
use Rattle.row_loops.specs.Rows.{at}
use Rattle.row_kernels.proofs.Columns.{columns_follow}
use Rattle.linear_rows.proofs.linear_sums.borrow_linear_line.Goals as goal

pub borrow_narrow_row-requires : goal.borrow_narrow_row-requires
borrow_narrow_row-requires g c = λ k h.
    let tap = c.args.tap.now in
    let points = c.args.points.now in
    let has = g.S.NarrowSource.has c.args.source.now tap.stage in
    let row_fits : FitsSigned w32 c.row_at_index-row.result = search rules in
    let col_fits : FitsSigned w32 c.first_column_at_index-first.result = search rules in
    let row : to_z w32 (of_z w32 c.row_at_index-row.result) ≡ index_at tap.row.now points.row =
    to_z-of_z w32 _ row_fits ∙ c.row_at_index-row.ensures in
    let first : to_z w32 (of_z w32 c.first_column_at_index-first.result) +ℤ pos k ≡ index_at tap.col.now (points.col +ℤ pos k) =
    ap (λ (z : ℤ). z +ℤ pos k) (to_z-of_z w32 _ col_fits ∙ c.first_column_at_index-first.ensures)
    ∙ columns_follow tap.col.now points.col k c.requires.shifting.0 c.requires.shifting.1 in
    subst (λ (z : ℤ). has z (to_z w32 (of_z w32 c.first_column_at_index-first.result) +ℤ pos k)) (sym row)
    (subst (λ (z : ℤ). has (index_at tap.row.now points.row) z) (sym first) (c.requires.reads k h))

pub returns-clause-values : goal.returns-clause-values
returns-clause-values g c = λ k l.
    let tap = c.args.tap.now in
    let points = c.args.points.now in
    let samples = g.S.NarrowSource.samples c.args.source.now tap.stage in
    let row_fits : FitsSigned w32 c.row_at_index-row.result = search rules in
    let col_fits : FitsSigned w32 c.first_column_at_index-first.result = search rules in
    let row : to_z w32 (of_z w32 c.row_at_index-row.result) ≡ index_at tap.row.now points.row =
    to_z-of_z w32 _ row_fits ∙ c.row_at_index-row.ensures in
    let first : to_z w32 (of_z w32 c.first_column_at_index-first.result) +ℤ pos k ≡ index_at tap.col.now (points.col +ℤ pos k) =
    ap (λ (z : ℤ). z +ℤ pos k) (to_z-of_z w32 _ col_fits ∙ c.first_column_at_index-first.ensures)
    ∙ columns_follow tap.col.now points.col k c.requires.shifting.0 c.requires.shifting.1 in
    let factor : FitsSigned w16 tap.factor = search rules in
    (λ i. to_z-of_z w16 tap.factor factor i *ℤ at c.borrow_narrow_row.result.now k)
    ∙ ap (λ (z : ℤ). tap.factor *ℤ z)
    (c.borrow_narrow_row.ensures.values k l
    ∙ ap (λ (z : ℤ). samples z (to_z w32 (of_z w32 c.first_column_at_index-first.result) +ℤ pos k)) row
    ∙ ap (samples (index_at tap.row.now points.row)) first)
