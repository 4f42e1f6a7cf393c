use Rattle.std.proofs.Common.{arith, pos, ◌<◌, ◌+ℤ◌, w32, ◌∙◌}
use Rattle.std.proofs.lemmas.Int.{to_z-of_z}
use Rattle.row_rings.specs.RingRows.{number_at}
use Rattle.row_rings.proofs.Points.{point_row, point_column, point_sample}
use Rattle.row_rings.proofs.ring.RowRings.slice_ring_row.Goals as goal

pub slice_kept_row-requires-clause-row : goal.slice_kept_row-requires-clause-row
slice_kept_row-requires-clause-row g c =
    let some : 0 < c.args.count = omega arith in
    rw (to_z-of_z w32 c.args.row c.ranges.row)
    (point_row c.args.self.now.rings.items c.args.stage c.index.result.now c.index.ensures c.args.row (c.args.first +ℤ pos 0)
    (c.requires 0 some))

pub slice_kept_row-requires-clause-columns : goal.slice_kept_row-requires-clause-columns
slice_kept_row-requires-clause-columns g c =
    rw (to_z-of_z w32 c.args.first c.ranges.first) (λ k h.
    point_column c.args.self.now.rings.items c.args.stage c.index.result.now c.index.ensures c.args.row (c.args.first +ℤ pos k)
    (c.requires k h))

pub returns-clause-values : goal.returns-clause-values
returns-clause-values g c = λ d k h.
    c.slice_kept_row.ensures.values d k h
    ∙ (λ i. number_at d c.index.result.now (to_z-of_z w32 c.args.row c.ranges.row i) (to_z-of_z w32 c.args.first c.ranges.first i +ℤ pos k))
    ∙ point_sample c.args.self.now.rings.items c.args.stage c.index.result.now c.index.ensures c.args.row (c.args.first +ℤ pos k)
    (c.requires k h) d
