use Rattle.std.proofs.Common.{rules, arith, ℤ, pos, ◌<◌, ◌+ℤ◌, length, w32, ◌∙◌}
use Rattle.std.proofs.lemmas.Int.{to_z-of_z}
use Rattle.domains.specs.Index.{index_at}
use Rattle.row_rings.specs.RingRows.{number_at}
use Rattle.row_rings.proofs.Points.{point_row, point_column, point_sample}
use Rattle.row_rings.proofs.ring_source.RowRingsI32RowSource.gather_row.Goals as goal

pub borrow_gathered_row-from-requires-clause-row : goal.borrow_gathered_row-from-requires-clause-row
borrow_gathered_row-from-requires-clause-row c =
    let some : 0 < length c.args.out.now = search rules in
    rw (to_z-of_z w32 c.args.row c.ranges.row)
    (point_row c.args.self.now.rings.items c.args.stage c.index.result.now c.index.ensures c.args.row
    (index_at c.args.col.now (c.args.points.now.col +ℤ pos 0)) (c.requires.there 0 some))

pub borrow_gathered_row-from-requires-clause-columns : goal.borrow_gathered_row-from-requires-clause-columns
borrow_gathered_row-from-requires-clause-columns c = λ k h.
    point_column c.args.self.now.rings.items c.args.stage c.index.result.now c.index.ensures c.args.row
    (index_at c.args.col.now (c.args.points.now.col +ℤ pos k)) (c.requires.there k (omega (arith, h, c.requires.fits)))

pub gather_index_columns-requires-clause-there : goal.gather_index_columns-requires-clause-there
gather_index_columns-requires-clause-there c = λ k h. c.borrow_gathered_row-from.ensures.there k (omega (arith, h, c.requires.fits))

pub returns-then-not-is_empty : goal.returns-then-not-is_empty
returns-then-not-is_empty c = λ k h.
    let col : ℤ = index_at c.args.col.now (c.args.points.now.col +ℤ pos k) in
    c.gather_index_columns.ensures k h
    ∙ c.borrow_gathered_row-from.ensures.values (pos 0) k (omega (arith, h, c.requires.fits))
    ∙ (λ i. number_at (pos 0) c.index.result.now (to_z-of_z w32 c.args.row c.ranges.row i) col)
    ∙ point_sample c.args.self.now.rings.items c.args.stage c.index.result.now c.index.ensures c.args.row col (c.requires.there k h) (pos 0)
