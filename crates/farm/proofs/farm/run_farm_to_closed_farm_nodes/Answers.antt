use Rattle.std.proofs.Common.{◌∙◌, ap, map, subst, sym}
use Rattle.std.proofs.lemmas.Result.{IfErr-weaker}
use Rattle.crossbeam_queue.specs.Passes.{ruled_capacity, view}
use Rattle.farm.proofs.WorkerRuns.{all_ended, all_worked, new_ports_to_nodes, not_closed, of_both}
use Rattle.farm.specs.WorkerLogs.{WorksAt, new_port}
use Rattle.farm.specs.WorkerRuns.{AreWorkerEnds}
use Rattle.farm.proofs.farm.run_farm_to_closed_farm_nodes.Given.{Over}
use Rattle.farm.proofs.farm.run_farm_to_closed_farm_nodes.Goals.{After-drop-leases-inside-2}
use Rattle.farm.proofs.farm.run_farm_to_closed_farm_nodes.Goals as goal

ended : (g : Over) (c : After-drop-leases-inside-2 g)
    → AreWorkerEnds g.C.NamedCatalog.catalog g.C.NamedFarm.farm c.args.plan.now.keys.now c.args.setup.now c.in_ok-ends.ends.items
ended g c =
    let farm = g.C.NamedFarm.farm in
    let setup = c.args.setup.now in
    let opened = c.in_ok-nodes.ensures in
    let nodes = c.in_ok-nodes.nodes.items in
    let works : WorksAt farm c.new.result.job.now c.new.result.schedule.now.inlining = rw (c.new.ensures.job, c.new.ensures.schedule) c.requires.job in
    all_ended g.C.NamedCatalog.catalog farm c.args.plan.now.keys.now setup _ _
    (λ number worker end new may no_memory. record {
      rules = record { number = worker.number; home = worker.home; setup = worker.setup; keys = worker.work.now.keys };
      number_is = new.0;
      home = new.1;
      setup_is = new.2;
      keys_are = ap (λ work. work.keys.now) new.3 ∙ c.new.ensures.keys;
      worked = may (subst (λ work. WorksAt farm work.job.now work.schedule.now.inlining) (sym new.3) works) (
        new.5,
        new_ports_to_nodes (λ port. port.post.now) (λ node. node.post) (λ post. ruled_capacity post.queue) (λ port. view port.pass.seat)
            setup.capacity setup.nodes worker.ports.items nodes new.6 new.7 opened.capacity opened.nodes ∙ ap (map new_port) (sym c.requires.mailboxes),
      ) no_memory;
    })
    c.in_ok-workers.workers.items c.in_ok-ends.ends.items c.in_ok-workers.ensures.each c.in_ok-ends.ensures.ends
    (c.in_ok-workers.ensures.count ∙ opened.count)

pub returns-clause-worked : goal.returns-clause-worked
returns-clause-worked g c =
    let closing = c.close_farm_nodes_to_list_or_memory_fault in
    of_both closing.result _ _ _
    (λ closed receipts none. all_worked g.C.NamedCatalog.catalog g.C.NamedFarm.farm c.args.plan.now.keys.now c.args.setup.now c.in_ok-ends.ends.items
    closed.items (ended g c) none receipts)
    closing.ensures.receipts closing.ensures.memory

pub returns-clause-fault : goal.returns-clause-fault
returns-clause-fault g c =
    let closing = c.close_farm_nodes_to_list_or_memory_fault in
    IfErr-weaker closing.result _ _
    (not_closed g.C.NamedCatalog.catalog g.C.NamedFarm.farm c.args.plan.now.keys.now c.args.setup.now c.in_ok-ends.ends.items _ (ended g c)
    c.in_ok-nodes.ensures.nodes)
    closing.ensures.fault
