use Rattle.std.proofs.Common.{◌≡◌, List, length}
use Rattle.std.specs.List.{fold}
use Rattle.farm_turns.specs.Shifts.{IsAt}
use Rattle.farm_turns.specs.Turns.{Progress, after_parcel}
use Rattle.tile_fact.specs.declared.update.Update.{Update}
use Rattle.farm_turns.proofs.shift.WorkerShift.receive_parcels_into_node.Given as goal

abbrev pub invariant-loop : goal.invariant-loop
invariant-loop g l =
    (l.self.rules ≡ l.fn.self.rules) × (l.end ≡ l.fn.self.rules.setup.capacity)
    × ((s : Progress) → IsAt {S = g.row.P.Denot} g.P.WorkerPlace.has_log l.fn.self.place l.fn.self.counts s
    → (parcels : List (List Update)) × (length parcels ≡ l.counter)
    × IsAt {S = g.row.P.Denot} g.P.WorkerPlace.has_log l.self.place l.self.counts (fold (after_parcel l.fn.self.rules) s parcels))
