use Rattle.std.proofs.Common.{sym, ap, ◌∙◌}
use Rattle.job.specs.Kept.{pipeline_in, program_id_in}
use Rattle.tile_boxes.specs.Order.{greatest_rank}
use Rattle.overlap_tiles.specs.Needs.{key_of}
use Rattle.tile_run.specs.Work.{is_stored_function, first_too_big}
use Rattle.tile_run.proofs.FirstFound.{nothing_of}
use Rattle.tile_run.proofs.FirstTooBig.{stored_fit}
use Rattle.tile_run.proofs.RunAllStores.{all_stored}
use Rattle.tile_run.proofs.ranks.run_all.Goals as goal

pub invariant_of-run : goal.invariant_of-run
invariant_of-run g c = record {
  fit = stored_fit (pipeline_in c.args.job.now) c.args.schedule.now.inlining
      (nothing_of (key_of (program_id_in c.args.job.now) (pipeline_in c.args.job.now))
      (first_too_big (pipeline_in c.args.job.now) c.args.schedule.now.inlining
      (is_stored_function (pipeline_in c.args.job.now) c.args.schedule.now.inlining))
      (sym c.in_default.is ∙ c.in_ok-key.ensures));
}

pub store_tiles_up_to_rank-requires-clause-last : goal.store_tiles_up_to_rank-requires-clause-last
store_tiles_up_to_rank-requires-clause-last g c κs within = c.find_greatest_rank.ensures ∙ ap greatest_rank c.stages.ensures

pub returns-clause-all : goal.returns-clause-all
returns-clause-all g c =
    all_stored (pipeline_in c.args.job.now) c.args.schedule.now.inlining c.in_ok-stored.stored.stages.items c.in_ok-stored.ensures

pub returns-clause-fits : goal.returns-clause-fits
returns-clause-fits g c =
    nothing_of (key_of (program_id_in c.args.job.now) (pipeline_in c.args.job.now))
    (first_too_big (pipeline_in c.args.job.now) c.args.schedule.now.inlining
    (is_stored_function (pipeline_in c.args.job.now) c.args.schedule.now.inlining))
    (sym c.in_default.is ∙ c.in_ok-key.ensures)
