use Rattle.std.proofs.Common.{subst, sym, ◌∙◌}
use Rattle.job.specs.Kept.{pipeline_in}
use Rattle.tile_boxes.specs.Schedules.{IsSchedule}
use Rattle.tile_boxes.specs.Costs.{AllFitScratch}
use Rattle.tile_boxes.proofs.AskedIsSchedule.{stored_is, stored_fits}
use Rattle.grouping.proofs.schedule.Schedule.stored.Goals as goal

pub from_inlining-requires : goal.from_inlining-requires
from_inlining-requires c =
    record {
      schedule =
          subst (IsSchedule (pipeline_in c.args.job.now)) (sym c.in_ok-inlining.ensures) (stored_is (pipeline_in c.args.job.now));
    }

pub returns-clause-fits : goal.returns-clause-fits
returns-clause-fits c =
    subst (AllFitScratch (pipeline_in c.args.job.now)) (sym (c.in_ok-schedule.ensures.inlining ∙ c.in_ok-inlining.ensures))
    (stored_fits (pipeline_in c.args.job.now))
