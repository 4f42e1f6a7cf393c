use Rattle.std.proofs.Common.{arith, ◌≡◌, ◌<◌, length, sym, ap, subst, ◌∙◌}
use Rattle.row_totals.specs.declared.row_total.RowTotal.{RowTotal}
use Rattle.ring_inputs.proofs.adding.add_ring_inputs_to_totals.Goals as goal

pub index_mut-requires : goal.index_mut-requires
index_mut-requires c = omega (arith, c.loop-place-test.true, c.loop-place.invariant.count, c.len-place-end.ensures)

pub add_ring_inputs_to_total-requires : goal.add_ring_inputs_to_total-requires
add_ring_inputs_to_total-requires c =
    let totals = c.loop-place.totals in
    let total = c.index_mut.result.now in
    let within : c.loop-place.place < length totals.totals.items =
    omega (arith, c.loop-place-test.true, c.loop-place.invariant.count, c.len-place-end.ensures, totals.totals.ok.0) in
    subst (λ (t : RowTotal). t.job.now ≡ totals.job.now) (sym c.index_mut.ensures.value) (totals.own c.loop-place.place total within)
    ∙ ap (λ kept. kept.now) c.loop-place.invariant.job ∙ c.requires
