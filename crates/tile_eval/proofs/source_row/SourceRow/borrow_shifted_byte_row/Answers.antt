use Rattle.std.proofs.Common.{rules, ℤ, ◌≡◌, ◌+ℤ◌, pos, to_z, of_z, w32, FitsSigned, ap, ◌∙◌, sym, subst}
use Rattle.std.proofs.lemmas.Int.{to_z-of_z}
use Rattle.std.proofs.lemmas.Option.{IfSome_then}
use Rattle.domains.specs.Index.{index_at}
use Rattle.row_kernels.proofs.Columns.{columns_follow}
use Rattle.tile_eval.proofs.source_row.SourceRow.borrow_shifted_byte_row.Goals as goal

pub borrow_byte_row-requires : goal.borrow_byte_row-requires
borrow_byte_row-requires g c = λ k h.
    let row_fits : FitsSigned w32 c.row_at_index-row.result = search rules in
    let col_fits : FitsSigned w32 c.first_column_at_index-first.result = search rules in
    let row : to_z w32 (of_z w32 c.row_at_index-row.result) ≡ index_at c.args.row.now c.args.self.now.points.row =
    to_z-of_z w32 _ row_fits ∙ c.row_at_index-row.ensures in
    let first : to_z w32 (of_z w32 c.first_column_at_index-first.result) +ℤ pos k ≡ index_at c.args.col.now (c.args.self.now.points.col +ℤ pos k) =
    ap (λ (z : ℤ). z +ℤ pos k) (to_z-of_z w32 _ col_fits ∙ c.first_column_at_index-first.ensures)
    ∙ columns_follow c.args.col.now c.args.self.now.points.col k c.requires.mul c.requires.div in
    subst (λ (z : ℤ). g.S.RowSource.has c.args.self.now.source.now c.args.stage z (to_z w32 (of_z w32 c.first_column_at_index-first.result) +ℤ pos k))
    (sym row)
    (subst (λ (z : ℤ). g.S.RowSource.has c.args.self.now.source.now c.args.stage (index_at c.args.row.now c.args.self.now.points.row) z)
    (sym first)
    (c.requires.reads k h))

pub returns : goal.returns
returns g c =
    let row_fits : FitsSigned w32 c.row_at_index-row.result = search rules in
    let col_fits : FitsSigned w32 c.first_column_at_index-first.result = search rules in
    let row : to_z w32 (of_z w32 c.row_at_index-row.result) ≡ index_at c.args.row.now c.args.self.now.points.row =
    to_z-of_z w32 _ row_fits ∙ c.row_at_index-row.ensures in
    IfSome_then c.borrow_byte_row.result c.borrow_byte_row.ensures (λ line h. (
      h.0,
      (λ k l.
          let first : to_z w32 (of_z w32 c.first_column_at_index-first.result) +ℤ pos k ≡ index_at c.args.col.now (c.args.self.now.points.col +ℤ pos k) =
          ap (λ (z : ℤ). z +ℤ pos k) (to_z-of_z w32 _ col_fits ∙ c.first_column_at_index-first.ensures)
          ∙ columns_follow c.args.col.now c.args.self.now.points.col k c.requires.mul c.requires.div in
          h.1 k l
          ∙ ap (λ (z : ℤ). g.S.RowSource.samples c.args.self.now.source.now c.args.stage z (to_z w32 (of_z w32 c.first_column_at_index-first.result) +ℤ
          pos k)) row
          ∙ ap (g.S.RowSource.samples c.args.self.now.source.now c.args.stage (index_at c.args.row.now c.args.self.now.points.row)) first),
    ))
