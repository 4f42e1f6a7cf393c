use Rattle.std.proofs.Common.{rules, ℤ, ◌≡◌, ◌+ℤ◌, pos, to_z, of_z, w32, FitsSigned, ap, ◌∙◌, sym, subst}
use Rattle.std.proofs.lemmas.Int.{to_z-of_z}
use Rattle.domains.specs.Index.{index_at}
use Rattle.row_kernels.proofs.Columns.{columns_follow}
use Rattle.narrow_sums.proofs.reads.borrow_narrow_sum_read_line.Goals as goal

pub borrow_narrow_row-requires : goal.borrow_narrow_row-requires
borrow_narrow_row-requires g c = λ k h.
    let read = c.args.read.now in
    let points = c.args.points.now in
    let has = g.S.NarrowSource.has c.args.source.now read.stage in
    let row_fits : FitsSigned w32 c.find_row_of_narrow_sum_read-row.result = search rules in
    let col_fits : FitsSigned w32 c.find_first_column_of_narrow_sum_read-first.result = search rules in
    let row : to_z w32 (of_z w32 c.find_row_of_narrow_sum_read-row.result) ≡ index_at read.row points.row =
    to_z-of_z w32 _ row_fits ∙ c.find_row_of_narrow_sum_read-row.ensures in
    let first : to_z w32 (of_z w32 c.find_first_column_of_narrow_sum_read-first.result) +ℤ pos k ≡ index_at read.col (points.col +ℤ pos k) =
    ap (λ (z : ℤ). z +ℤ pos k) (to_z-of_z w32 _ col_fits ∙ c.find_first_column_of_narrow_sum_read-first.ensures)
    ∙ columns_follow read.col points.col k read.mul read.div in
    subst (λ (z : ℤ). has z (to_z w32 (of_z w32 c.find_first_column_of_narrow_sum_read-first.result) +ℤ pos k)) (sym row)
    (subst (λ (z : ℤ). has (index_at read.row points.row) z) (sym first) (c.requires k h))

pub returns-clause-values : goal.returns-clause-values
returns-clause-values g c = λ k l.
    let read = c.args.read.now in
    let points = c.args.points.now in
    let samples = g.S.NarrowSource.samples c.args.source.now read.stage in
    let row_fits : FitsSigned w32 c.find_row_of_narrow_sum_read-row.result = search rules in
    let col_fits : FitsSigned w32 c.find_first_column_of_narrow_sum_read-first.result = search rules in
    let row : to_z w32 (of_z w32 c.find_row_of_narrow_sum_read-row.result) ≡ index_at read.row points.row =
    to_z-of_z w32 _ row_fits ∙ c.find_row_of_narrow_sum_read-row.ensures in
    let first : to_z w32 (of_z w32 c.find_first_column_of_narrow_sum_read-first.result) +ℤ pos k ≡ index_at read.col (points.col +ℤ pos k) =
    ap (λ (z : ℤ). z +ℤ pos k) (to_z-of_z w32 _ col_fits ∙ c.find_first_column_of_narrow_sum_read-first.ensures)
    ∙ columns_follow read.col points.col k read.mul read.div in
    c.borrow_narrow_row.ensures.values k l
    ∙ ap (λ (z : ℤ). samples z (to_z w32 (of_z w32 c.find_first_column_of_narrow_sum_read-first.result) +ℤ pos k)) row
    ∙ ap (samples (index_at read.row points.row)) first
