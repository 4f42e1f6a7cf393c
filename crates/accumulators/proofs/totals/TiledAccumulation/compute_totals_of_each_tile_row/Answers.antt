use Rattle.std.proofs.Common.{◌<◌}
use Rattle.domains.specs.Tiles.{tile_rows}
use Rattle.rayon.proofs.ToStd.{nat_range-All}
use Rattle.reductions.specs.Accumulating.{AreBins}
use Rattle.accumulators.specs.inside.Making.{totals_of_row, AreTotalsOfRow}
use Rattle.tile_run.proofs.MadeInOrder.{collected, collected_all}
use denote.Param.Send.{sendable}
use Rattle.std.proofs.Crossing as owners
use Rattle.accumulators.proofs.Crossing.{accumulation_sync}
use Rattle.accumulators.proofs.totals.TiledAccumulation.compute_totals_of_each_tile_row.Goals as goal

pub map_init-requires-send-F : goal.map_init-requires-send-F
map_init-requires-send-F g c κs within = search (accumulation_sync, sendable, owners.crosses) depth 40

pub map_init-requires-sync-F : goal.map_init-requires-sync-F
map_init-requires-sync-F g c κs within = search (accumulation_sync, sendable, owners.crosses) depth 40

pub collect-requires-send-Self : goal.collect-requires-send-Self
collect-requires-send-Self g c κs within = search (accumulation_sync, sendable, owners.crosses) depth 40

pub collect-requires-clause-ready : goal.collect-requires-clause-ready
collect-requires-clause-ready g c κs within =
    let ends = c.into_par_iter.ensures in
    let rows = tile_rows c.args.self.now.grid in
    let inside = nat_range-All (λ i. i < rows) 0 rows (λ i low high. high) in
    rw (c.map_init.ensures.base, c.map_init.ensures.f, c.with_min_len.ensures.base, ends.0, ends.1, c.tile_rows.ensures.number)
    (tt, λ k d lt. (λ p. (c.requires, inside k d lt), λ p q y made. tt))

pub returns-clause-are : goal.returns-clause-are
returns-clause-are g c =
    let ends = c.into_par_iter.ensures in
    let made = rw (c.map_init.ensures.base, c.map_init.ensures.f, c.with_min_len.ensures.base, ends.0, ends.1, c.tile_rows.ensures.number)
    at c.in_ok-collect.ensures.1 in
    collected_all (λ bins. AreBins c.args.self.now.accumulator.now bins.items) _ c.in_ok-collect.ensures.0 c.in_ok-collect.field-0
    (λ row bins it.
    let is : AreTotalsOfRow c.args.self.now row bins.items = it.2 in is.are) made.0 made.2 c.in_ok-collect.ensures.2

pub returns-clause-totals : goal.returns-clause-totals
returns-clause-totals g c =
    let ends = c.into_par_iter.ensures in
    let made = rw (c.map_init.ensures.base, c.map_init.ensures.f, c.with_min_len.ensures.base, ends.0, ends.1, c.tile_rows.ensures.number)
    at c.in_ok-collect.ensures.1 in
    collected (λ bins. bins.items) (totals_of_row c.args.self.now) _ (tile_rows c.args.self.now.grid) c.in_ok-collect.ensures.0
    c.in_ok-collect.field-0 (λ row bins it.
    let is : AreTotalsOfRow c.args.self.now row bins.items = it.2 in is.totals) made.0 made.1 made.2 c.in_ok-collect.ensures.2
