use Rattle.std.proofs.Common.{ap, slice_get}
use Rattle.catalog.specs.Entries.{entry_of}
use Rattle.farm_answers.specs.Answering.{IsPlanned}
use Rattle.farm_commands.proofs.FarmRuns.{run_on_job}
use Rattle.farm_commands.proofs.farm_run.compute_farm_result_of_only_job.Goals as goal

pub run_farm_for_farm_result-requires-clause-planned : goal.run_farm_for_farm_result-requires-clause-planned
run_farm_for_farm_result-requires-clause-planned g c =
    let planned : IsPlanned c.args.catalog.now 0 c.in_ok-schedule.schedule =
    record {
      entry = entry_of c.args.job.now;
      there = ap (λ jobs. slice_get jobs 0) c.requires;
      schedule = c.in_ok-schedule.ensures.schedule;
      fits = c.in_ok-schedule.ensures.fits;
    } in
    λ κs lives. planned

pub make_result_reply-requires : goal.make_result_reply-requires
make_result_reply-requires g c = c.in-Ok.ensures.answer (entry_of c.args.job.now) (ap (λ jobs. slice_get jobs 0) c.requires)

pub returns-in-Ok-clause-run : goal.returns-in-Ok-clause-run
returns-in-Ok-clause-run g c =
    run_on_job c.args.setup.now c.args.options.now (entry_of c.args.job.now) c.args.catalog.now c.in_ok-schedule.schedule.inlining _
    c.requires c.in_ok-schedule.ensures.inlining c.in-Ok.ensures.setup c.in-Ok.ensures.nodes c.in-Ok.ensures.closed c.in-Ok.ensures.worked
    c.in-Ok.ensures.by_caller
