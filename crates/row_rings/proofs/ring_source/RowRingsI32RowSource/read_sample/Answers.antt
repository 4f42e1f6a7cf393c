use Rattle.std.proofs.Common.{arith, ℤ, pos, ◌≡◌, ◌+ℤ◌, w32, sym, subst}
use Rattle.std.proofs.lemmas.Int.{ints, to_z-of_z}
use Rattle.row_rings.specs.RingRows.{IsKeptPoint}
use Rattle.row_rings.proofs.ring_source.RowRingsI32RowSource.read_sample.Goals as goal

pub slice_ring_row-requires : goal.slice_ring_row-requires
slice_ring_row-requires c =
    rw (to_z-of_z w32 c.args.row c.ranges.row) (rw (to_z-of_z w32 c.args.col c.ranges.col) (λ k h.
    let same : c.args.col +ℤ pos k ≡ c.args.col = omega (arith, ints) in
    subst (λ (z : ℤ). IsKeptPoint c.args.self.now.rings.items c.args.stage c.args.row z) (sym same) c.requires))
