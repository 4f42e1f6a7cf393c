use Rattle.job.specs.Kept.{pipeline_in}
use Rattle.part_stages.proofs.Pushing.{no_parts}
use Rattle.part_stages.proofs.part_finder.list_whole_parts.Goals as goal

pub loop-number-init : goal.loop-number-init
loop-number-init c =
    no_parts (pipeline_in c.args.job.now) (record { stages = c.new.result; known = c.new-2.result }) c.args.job.now.well c.new.ensures.items
    c.new-2.ensures.items
