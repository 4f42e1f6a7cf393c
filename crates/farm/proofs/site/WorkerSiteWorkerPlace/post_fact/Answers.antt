use Rattle.std.proofs.Common.{◌≤◌, ap, inl, inr, length, refl, rules, arith}
use Rattle.std.proofs.lemmas.List.{length-map}
use Rattle.crossbeam_queue.specs.Passes.{ruled_capacity, view}
use Rattle.farm.proofs.WorkerCalls.{goes_on, puts}
use Rattle.farm.specs.WorkerLogs.{PortTrace}
use Rattle.farm_turns.specs.Calls.{Put}
use Rattle.farm.proofs.site.WorkerSiteWorkerPlace.post_fact.Goals as goal

pub returns-in_default : goal.returns-in_default
returns-in_default g c =
    let ports = c.args.self.now.ports.items in
    let none : length ports ≤ c.args.node = search rules in
    goes_on (Put c.args.node c.args.from c.args.fact.now)
    (λ works. inr (refl, inl (omega (arith, length-map {B = PortTrace} ports (λ port. record { capacity = ruled_capacity port.post.now.queue; moved = view port.pass.seat }), none))))

pub returns : goal.returns
returns g c =
    let site = c.args.self.now in
    let told = c.put_parcel.ensures in
    goes_on (Put c.args.node c.args.from c.args.fact.now) (λ works.
    puts (λ port. record { capacity = ruled_capacity port.post.now.queue; moved = view port.pass.seat }) site.hand.end.receipts.items site.leases
    g.C.NamedCatalog.catalog g.C.NamedFarm.farm site.ports.items c.from.result c.args.node c.args.from c.args.fact.now c.in-Some.port.now
    c.put_parcel.new.self (record { from = c.args.from; updates = c.in_ok-updates.updates }) c.put_parcel.result c.from.ensures (search rules)
    c.in-Some.ensures.value (ap (λ p. ruled_capacity p.queue) told.post) told.put told.nothing told.full (refl, c.in_ok-updates.ensures))
