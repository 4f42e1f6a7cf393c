use Rattle.std.proofs.Common.{rules, ℤ, ◌≡◌, ◌+ℤ◌, pos, to_z, of_z, w32, FitsSigned, ap, ◌∙◌, sym, subst}
use Rattle.std.proofs.lemmas.Int.{to_z-of_z}
use Rattle.domains.specs.Index.{index_at}
use Rattle.row_kernels.proofs.Columns.{columns_follow}
use Rattle.tile_eval.proofs.source_row.SourceRow.write_samples_of_read_along_row.Goals as goal

pub read_row-requires : goal.read_row-requires
read_row-requires g c = λ k h.
    let adds = c.is_index_shifting_along_row.ensures c.if-is_index_shifting_along_row.true in
    let row_fits : FitsSigned w32 c.row_at_index-own.result = search rules in
    let col_fits : FitsSigned w32 c.first_column_at_index.result = search rules in
    let row : to_z w32 (of_z w32 c.row_at_index-own.result) ≡ index_at c.args.row.now c.args.self.now.points.row =
    to_z-of_z w32 _ row_fits ∙ c.row_at_index-own.ensures in
    let first : to_z w32 (of_z w32 c.first_column_at_index.result) +ℤ pos k ≡ index_at c.args.col.now (c.args.self.now.points.col +ℤ pos k) =
    ap (λ (z : ℤ). z +ℤ pos k) (to_z-of_z w32 _ col_fits ∙ c.first_column_at_index.ensures)
    ∙ columns_follow c.args.col.now c.args.self.now.points.col k adds.0 adds.1 in
    subst (λ (z : ℤ). g.S.RowSource.has c.args.self.now.source.now c.args.stage z (to_z w32 (of_z w32 c.first_column_at_index.result) +ℤ pos k)) (sym row)
    (subst (λ (z : ℤ). g.S.RowSource.has c.args.self.now.source.now c.args.stage (index_at c.args.row.now c.args.self.now.points.row) z)
    (sym first)
    (c.requires.reads k h))

pub returns-then-is_index_shifting_along_row : goal.returns-then-is_index_shifting_along_row
returns-then-is_index_shifting_along_row g c = λ k h.
    let adds = c.is_index_shifting_along_row.ensures c.if-is_index_shifting_along_row.true in
    let row_fits : FitsSigned w32 c.row_at_index-own.result = search rules in
    let col_fits : FitsSigned w32 c.first_column_at_index.result = search rules in
    let row : to_z w32 (of_z w32 c.row_at_index-own.result) ≡ index_at c.args.row.now c.args.self.now.points.row =
    to_z-of_z w32 _ row_fits ∙ c.row_at_index-own.ensures in
    let first : to_z w32 (of_z w32 c.first_column_at_index.result) +ℤ pos k ≡ index_at c.args.col.now (c.args.self.now.points.col +ℤ pos k) =
    ap (λ (z : ℤ). z +ℤ pos k) (to_z-of_z w32 _ col_fits ∙ c.first_column_at_index.ensures)
    ∙ columns_follow c.args.col.now c.args.self.now.points.col k adds.0 adds.1 in
    c.read_row.ensures k h
    ∙ ap (λ (z : ℤ). g.S.RowSource.samples c.args.self.now.source.now c.args.stage z (to_z w32 (of_z w32 c.first_column_at_index.result) +ℤ pos k)) row
    ∙ ap (g.S.RowSource.samples c.args.self.now.source.now c.args.stage (index_at c.args.row.now c.args.self.now.points.row)) first
