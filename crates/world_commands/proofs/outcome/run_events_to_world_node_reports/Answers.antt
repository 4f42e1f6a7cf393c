use Rattle.std.proofs.Common.{◌≡◌, [], false, rules}
use Rattle.world_commands.proofs.Ended.{run_outcome}
use Rattle.world_commands.proofs.NodeCounts.{leads_nodes}
use Rattle.world_commands.proofs.outcome.run_events_to_world_node_reports.Goals as goal

pub collect_world_node_reports-requires : goal.collect_world_node_reports-requires
collect_world_node_reports-requires c =
    let ran = c.run-ran.ensures.led c.args.nodes [] [] c.requires in
    leads_nodes c.run-ran.new.self.work c.args.nodes _ ran.later c.run-ran.new.self.network ran.leads

pub returns : goal.returns
returns c =
    let ran = c.run-ran.result in
    let whole : ran.memory ≡ false = search rules in
    run_outcome c.args.world.work c.args.nodes c.args.events.now c.run-ran.new.self ran.done ran.refused c.in_ok-collect_world_node_reports.field-0.items
    c.run-ran.ensures.work (c.run-ran.ensures.led c.args.nodes [] [] c.requires) (c.run-ran.ensures.all whole) c.in_ok-collect_world_node_reports.ensures
