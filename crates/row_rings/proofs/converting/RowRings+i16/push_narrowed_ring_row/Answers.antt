use Rattle.row_rings.proofs.Points.{ring_there}
use Rattle.row_rings.proofs.Stepping.{with_more, with_none}
use Rattle.row_rings.proofs.converting.RowRings+i16.push_narrowed_ring_row.Goals as goal

pub returns-then-keeps_rows_of_ring : goal.returns-then-keeps_rows_of_ring
returns-then-keeps_rows_of_ring c =
    with_more c.args.stage c.args.line.now c.args.self.now.rings.items c.index_mut.result.now c.push_narrowed_ring_row.new.self
    (ring_there c.args.self.now.rings.items c.args.stage c.index_mut.result.now c.index_mut.ensures.value
    (c.keeps_rows_of_ring.ensures.there c.if-keeps_rows_of_ring.true)) c.push_narrowed_ring_row.ensures

pub returns-else-keeps_rows_of_ring : goal.returns-else-keeps_rows_of_ring
returns-else-keeps_rows_of_ring c =
    with_none c.args.stage c.args.line.now c.args.self.now.rings.items (c.keeps_rows_of_ring.ensures.none c.if-keeps_rows_of_ring.false)
