use Rattle.std.proofs.Common.{arith, ℕ, ◌+◌, sym, subst}
use Rattle.job.specs.Kept.{pipeline_in}
use Rattle.row_totals.specs.RowTotals.{IsRowRead}
use Rattle.ring_inputs.specs.RingInputs.{IsRingInput}
use Rattle.ring_inputs.proofs.adding.add_ring_inputs_to_total.Goals as goal

pub count_rows_with_ring_inputs-count-requires : goal.count_rows_with_ring_inputs-count-requires
count_rows_with_ring_inputs-count-requires c =
    omega (arith, c.min-most.ensures, c.min.ensures, c.saturating_sub.ensures, c.ranges.end.fits, c.next_summed_row-first.type_inv)

pub accumulate_next_summed_rows-requires-clause-reads : goal.accumulate_next_summed_rows-requires-clause-reads
accumulate_next_summed_rows-requires-clause-reads c = λ k l.
    let rings = c.args.rings.now in
    let total = c.args.total.now in
    let job = pipeline_in rings.job.now in
    let has = IsRingInput job rings.wide.rings.items in
    subst (λ kept. IsRowRead has (pipeline_in kept) total.stage (total.next + k)) (sym c.requires)
    (subst (λ (g : ℕ). IsRowRead has job g (total.next + k)) c.summed_stage.ensures
    (subst (λ (n : ℕ). IsRowRead has job c.summed_stage.result (n + k)) c.next_summed_row-first.ensures
    (c.count_rows_with_ring_inputs-count.ensures.each k l)))
