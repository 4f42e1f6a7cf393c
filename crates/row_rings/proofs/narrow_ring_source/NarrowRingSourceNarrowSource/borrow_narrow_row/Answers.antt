use Rattle.std.proofs.Common.{pos, ◌+ℤ◌, w32, ◌∙◌}
use Rattle.std.proofs.lemmas.Int.{to_z-of_z}
use Rattle.row_rings.specs.RingRows.{sample_in}
use Rattle.row_rings.proofs.narrow_ring_source.NarrowRingSourceNarrowSource.borrow_narrow_row.Goals as goal

pub returns-clause-values : goal.returns-clause-values
returns-clause-values c = λ k h.
    c.slice_ring_row.ensures.values (pos 0) k h
    ∙ (λ i. sample_in c.args.self.now.known.now.rings.items c.args.stage (to_z-of_z w32 c.args.row c.ranges.row i)
    (to_z-of_z w32 c.args.first c.ranges.first i +ℤ pos k))
    ∙ c.args.self.now.right c.args.stage c.args.row (c.args.first +ℤ pos k) (c.requires k h)
