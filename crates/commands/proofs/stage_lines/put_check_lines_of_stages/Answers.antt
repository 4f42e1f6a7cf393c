use Rattle.job.specs.Kept.{pipeline_in}
use Rattle.commands.specs.Listing.{stage_line_at}
use Rattle.commands.proofs.Ranging.{put_more}
use Rattle.commands.proofs.stage_lines.put_check_lines_of_stages.Goals as goal

pub loop-number-preserved : goal.loop-number-preserved
loop-number-preserved c =
    put_more (stage_line_at (pipeline_in c.args.job.now)) c.loop-number.number c.args.lines.now.items c.loop-number.lines.items
    c.put_check_line_of_stage.new.lines.items c.loop-number.invariant c.in_ok-put_check_line_of_stage.ensures
