use Rattle.std.proofs.Common.{ℕ, ◌+◌}
use borrow.Author.Count.{below_more}
use Rattle.job.specs.Kept.{pipeline_in}
use Rattle.row_totals.specs.RowTotals.{IsRowRead}
use Rattle.ring_inputs.specs.RingInputs.{IsRingInput}
use Rattle.ring_inputs.proofs.inputs.RingInputs.count_rows_with_ring_inputs.Goals as goal

pub loop-k-preserved : goal.loop-k-preserved
loop-k-preserved c =
    let rings = c.args.self.now.rings.now in
    let job = pipeline_in rings.job.now in
    let P : ℕ → Type 0 = λ i. IsRowRead (IsRingInput job rings.wide.rings.items) job c.args.stage (c.args.first + i) in
    below_more P c.loop-k.k c.loop-k.invariant (c.has_ring_inputs_in_row.ensures c.if-not-has_ring_inputs_in_row.false)
