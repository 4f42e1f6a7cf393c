use Rattle.std.proofs.Common.{subst, sym}
use Rattle.job.specs.Kept.{pipeline_in}
use Rattle.tile_boxes.specs.Schedules.{IsSchedule}
use Rattle.tile_boxes.proofs.AskedIsSchedule.{asked_is}
use Rattle.grouping.proofs.schedule.Schedule.from_requested.Goals as goal

pub from_inlining-requires : goal.from_inlining-requires
from_inlining-requires c =
    record {
      schedule = subst (IsSchedule (pipeline_in c.args.job.now)) (sym c.in_ok-inlining.ensures)
          (asked_is (pipeline_in c.args.job.now) c.args.asked.now c.requires.outputs);
    }
