use Rattle.std.proofs.Common.{ap, refl, rules}
use Rattle.crossbeam_queue.specs.Passes.{ruled_capacity, view}
use Rattle.farm.proofs.WorkerCalls.{goes_on, moves_on, stays}
use Rattle.farm.specs.WorkerLogs.{with_take}
use Rattle.farm_turns.specs.Calls.{Found_empty, Received}
use Rattle.farm.proofs.site.WorkerSiteWorkerPlace.receive_parcel_updates.Goals as goal

pub returns-in_err-port-clause-empty : goal.returns-in_err-port-clause-empty
returns-in_err-port-clause-empty g c = rw c.from_residual.ensures (goes_on (Found_empty c.args.node) (λ works. refl))

pub returns-in_err-parcel-clause-empty : goal.returns-in_err-parcel-clause-empty
returns-in_err-parcel-clause-empty g c =
    let site = c.args.self.now in
    let told = c.in_err-parcel.ensures in
    let same = stays (λ port. record { capacity = ruled_capacity port.post.now.queue; moved = view port.pass.seat }) site.hand.end.receipts.items site.leases site.ports.items
    c.from.result c.in_ok-port.port.now c.take_parcel.new.self c.in_ok-port.ensures.value (ap (λ p. ruled_capacity p.queue) told.post) told.nothing in
    rw c.from_residual-in_err-parcel.ensures (goes_on (Found_empty c.args.node) (λ works. same))

pub returns-clause-call : goal.returns-clause-call
returns-clause-call g c =
    let site = c.args.self.now in
    let told = c.in_ok-parcel.ensures in
    let parcel = c.in_ok-parcel.parcel in
    goes_on (Received c.args.node parcel.updates.items) (λ works. (
      parcel,
      refl,
      moves_on (λ port. record { capacity = ruled_capacity port.post.now.queue; moved = view port.pass.seat }) site.hand.end.receipts.items site.leases site.ports.items
          c.from.result c.args.node c.in_ok-port.port.now c.take_parcel.new.self (with_take parcel) c.from.ensures (search rules)
          c.in_ok-port.ensures.value (ap (λ p. ruled_capacity p.queue) told.post) told.taken,
    ))
