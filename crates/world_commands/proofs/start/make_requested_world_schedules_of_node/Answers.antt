use Rattle.catalog.specs.Entries.{entry_of}
use Rattle.world_commands.proofs.Schedules.{schedule_more}
use Rattle.world_commands.proofs.start.make_requested_world_schedules_of_node.Goals as goal

pub loop-index-preserved : goal.loop-index-preserved
loop-index-preserved c =
    let options = c.args.options.now in
    schedule_more options.stored options.percent c.args.catalog.now c.loop-index.index (entry_of c.in-Some.job.now)
    c.loop-index.schedules.items c.push.new.self.items c.in_ok-make_requested_schedule-in-Some.field-0 c.loop-index.invariant c.in-Some.ensures.job
    c.in_ok-make_requested_schedule-in-Some.ensures.inlining c.in_ok-push-in-Some.ensures.items
