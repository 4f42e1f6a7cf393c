use Rattle.std.proofs.Common.{[]}
use Rattle.job.specs.Kept.{pipeline_in}
use Rattle.commands.specs.Planning.{plan_line_at}
use Rattle.commands.proofs.Ranging.{put_more}
use Rattle.commands.proofs.plan_lines.make_plan_lines.Goals as goal

pub loop-number-preserved : goal.loop-number-preserved
loop-number-preserved c =
    put_more (plan_line_at (pipeline_in c.args.job.now) c.args.schedule.now.inlining) c.loop-number.number [] c.loop-number.lines.items
    c.put_plan_line_of_stage_unless_plane.new.lines.items c.loop-number.invariant c.in_ok-put_plan_line_of_stage_unless_plane.ensures
