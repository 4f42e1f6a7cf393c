use Rattle.std.proofs.Common.{rules, ℤ, ◌≡◌, ◌+ℤ◌, pos, to_z, of_z, w32, FitsSigned, ap, ◌∙◌, sym, subst}
use Rattle.std.proofs.lemmas.Int.{to_z-of_z}
use Rattle.std.proofs.lemmas.Option.{IfSome_then}
use Rattle.domains.specs.Index.{index_at}
use Rattle.row_kernels.proofs.Columns.{columns_follow}
use Rattle.wide_divisions.proofs.reads.borrow_division_step_read.Goals as goal

pub borrow_row-requires : goal.borrow_row-requires
borrow_row-requires g c = λ k h.
    let read = c.args.read.now in
    let points = c.args.points.now in
    let has = g.S.RowSource.has c.args.source.now read.stage in
    let row_fits : FitsSigned w32 c.row_at_index-row.result = search rules in
    let col_fits : FitsSigned w32 c.first_column_at_index-first.result = search rules in
    let row : to_z w32 (of_z w32 c.row_at_index-row.result) ≡ index_at read.row.now points.row =
    to_z-of_z w32 _ row_fits ∙ c.row_at_index-row.ensures in
    let first : to_z w32 (of_z w32 c.first_column_at_index-first.result) +ℤ pos k ≡ index_at read.col.now (points.col +ℤ pos k) =
    ap (λ (z : ℤ). z +ℤ pos k) (to_z-of_z w32 _ col_fits ∙ c.first_column_at_index-first.ensures)
    ∙ columns_follow read.col.now points.col k c.requires.adjacent.0 c.requires.adjacent.1 in
    subst (λ (z : ℤ). has z (to_z w32 (of_z w32 c.first_column_at_index-first.result) +ℤ pos k)) (sym row)
    (subst (λ (z : ℤ). has (index_at read.row.now points.row) z) (sym first) (c.requires.reads k h))

pub returns : goal.returns
returns g c =
    let read = c.args.read.now in
    let points = c.args.points.now in
    let samples = g.S.RowSource.samples c.args.source.now read.stage in
    let row_fits : FitsSigned w32 c.row_at_index-row.result = search rules in
    let col_fits : FitsSigned w32 c.first_column_at_index-first.result = search rules in
    let row : to_z w32 (of_z w32 c.row_at_index-row.result) ≡ index_at read.row.now points.row =
    to_z-of_z w32 _ row_fits ∙ c.row_at_index-row.ensures in
    IfSome_then c.borrow_row.result c.borrow_row.ensures (λ line h. (
      h.0,
      (λ k l.
          let first : to_z w32 (of_z w32 c.first_column_at_index-first.result) +ℤ pos k ≡ index_at read.col.now (points.col +ℤ pos k) =
          ap (λ (z : ℤ). z +ℤ pos k) (to_z-of_z w32 _ col_fits ∙ c.first_column_at_index-first.ensures)
          ∙ columns_follow read.col.now points.col k c.requires.adjacent.0 c.requires.adjacent.1 in
          h.1 k l
          ∙ ap (λ (z : ℤ). samples z (to_z w32 (of_z w32 c.first_column_at_index-first.result) +ℤ pos k)) row
          ∙ ap (samples (index_at read.row.now points.row)) first),
    ))
