use Rattle.std.proofs.Common.{◌≡◌, ap, ◌∙◌}
use denote.Param.Send.{sendable}
use Rattle.std.proofs.Crossing as owners
use Rattle.row_streams.proofs.Crossing.{row_totals_send}
use Rattle.row_totals.specs.declared.row_totals.RowTotals.{RowTotals}
use Rattle.row_streams.proofs.MadeInOrder.{collected_all}
use Rattle.row_streams.proofs.strip_totals.StripTotalsMaker.make_totals_of_all_strip_streams.Goals as goal

pub map-requires-send-U : goal.map-requires-send-U
map-requires-send-U g c κs within = search (row_totals_send, sendable, owners.crosses) depth 40

pub collect-requires-send-Self-Item : goal.collect-requires-send-Self-Item
collect-requires-send-Self-Item g c κs within = search (row_totals_send, sendable, owners.crosses) depth 40

pub collect-requires-send-C : goal.collect-requires-send-C
collect-requires-send-C g c κs within = search (row_totals_send, sendable, owners.crosses) depth 40

pub returns : goal.returns
returns g c =
    let self = c.args.self.now in
    let made = c.in_ok-collect.ensures.1 in
    collected_all _ (λ (totals : RowTotals). totals.job.now ≡ self.job.now) made.0 c.in_ok-collect.ensures.0 c.in_ok-collect.field-0
    (λ number totals it. it ∙ ap (λ held. held.0.now.job.now) c.map.ensures.f) made.2 c.in_ok-collect.ensures.2
