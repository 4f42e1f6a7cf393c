use Rattle.std.proofs.Common.{◌≡◌}
use Rattle.worlds.proofs.StepLaws.{made_by, never_made}
use Rattle.worlds.proofs.planned.WorldJobs.make_fact_at_node.Goals as goal

pub returns-in-Some-clause-made : goal.returns-in-Some-clause-made
returns-in-Some-clause-made g c =
    made_by c.args.self.now _ c.self.view_is c.args.n c.args.state.now c.args.key.now c.in-Some.schedule.now.inlining c.in-Some.ensures.some
    c.make.result c.make.ensures.key c.make.ensures.made

pub returns-in-Some-clause-fault : goal.returns-in-Some-clause-fault
returns-in-Some-clause-fault g c =
    never_made c.args.self.now _ c.self.view_is c.args.n c.args.state.now c.args.key.now c.in-Some.schedule.now.inlining
    c.in-Some.ensures.some
    c.make.result c.make.ensures.fault
