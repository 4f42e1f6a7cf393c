-- The run of a farm on the job of an input, from what its steps make sure of.
use Rattle.std.proofs.Common.{◌≡◌, ◌∙◌, List, [], ◌∷◌, ℕ, Bool, Result, Ok, Err, length, ap, subst}
use Rattle.std.specs.Prelude.{All, IfOk}
use Rattle.catalog.specs.Entries.{Entry, entry_of}
use Rattle.command_faults.specs.declared.faults.StreamFault.{StreamFault}
use Rattle.command_inputs.specs.Giving.{Given}
use Rattle.command_inputs.specs.Input.{IsReadJob}
use Rattle.command_jobs.specs.RequestedSchedule.{requested_inlining}
use Rattle.command_jobs.specs.Results.{SaysResult, result_bytes}
use Rattle.command_line.specs.declared.options.Options.{Options}
use Rattle.command_outcomes.proofs.Written.{said_of}
use Rattle.command_outcomes.specs.Outcomes.{IsSaid}
use Rattle.command_outcomes.specs.Replies.{reply_bytes}
use Rattle.farm.specs.Reports.{IsSoundEnd, all_held}
use Rattle.farm.specs.WorkerRuns.{HaveRun}
use Rattle.farm_answers.specs.Answering.{missing_work}
use Rattle.farm_commands.specs.FarmRuns.{IsRunOnInput, IsRunOnJob}
use Rattle.farm_commands.specs.declared.farm_run.FarmResult.{FarmResult}
use Rattle.farm_commands.specs.declared.result_run.FarmResultRun.{FarmResultRun}
use Rattle.farm_setup.specs.declared.setup.FarmSetup.{FarmSetup}
use Rattle.job.specs.Kept.{pipeline_in}
use Rattle.job.specs.WellFormed.{IsJob}
use Rattle.job.specs.declared.job.Job.{Job}

-- a run on the only job of a catalog, by the schedule that the options request
pub run_on_job : (setup : FarmSetup) (options : Options) (job : Entry) (catalog : List Entry) (inlining : List Bool) (run : FarmResultRun)
    → catalog ≡ job ∷ [] → inlining ≡ requested_inlining options.stored options.percent job.pipeline → run.setup ≡ setup
    → length run.closed.items ≡ setup.nodes → All (IsSoundEnd catalog) run.closed.items → HaveRun catalog 0 inlining setup run.closed.items
    → run.by_caller ≡ length (missing_work catalog 0 inlining (all_held run.closed.items)) → IsRunOnJob setup options job run
run_on_job setup options job catalog inlining run alone requested as_set_up nodes closed worked by_caller =
    record {
      as_set_up = as_set_up;
      nodes = nodes;
      closed = subst (λ (jobs : List Entry). All (IsSoundEnd jobs) run.closed.items) alone closed;
      worked =
          subst (λ (jobs : List Entry). HaveRun jobs 0 (requested_inlining options.stored options.percent job.pipeline) setup run.closed.items) alone
          (subst (λ (stored : List Bool). HaveRun catalog 0 stored setup run.closed.items) requested worked);
      by_caller =
          by_caller ∙ ap (λ (jobs : List Entry). length (missing_work jobs 0 inlining (all_held run.closed.items))) alone
          ∙ ap (λ (stored : List Bool). length (missing_work (job ∷ []) 0 stored (all_held run.closed.items))) requested;
    }

-- a run on the job that is read of an input
pub run_on_input : (setup : FarmSetup) (options : Options) (given : List Given) (input : List ℕ) (job : Job)
    (r : Result FarmResult StreamFault)
    → IsReadJob input given options.sides job → IsJob (pipeline_in job)
    → IfOk r (λ farmed. reply_bytes farmed.reply ≡ result_bytes (pipeline_in job))
    → IfOk r (λ farmed. IsRunOnJob setup options (entry_of job) farmed.run)
    → IfOk r (λ farmed. IsRunOnInput setup options given input (reply_bytes farmed.reply) farmed.run)
run_on_input setup options given input job (Ok farmed) read is reply run =
    record { job = job; of_input = read; is_job = is; on_job = run; result = reply }
run_on_input setup options given input job (Err fault) read is reply run = tt

-- what is said of it
pub run_says : (setup : FarmSetup) (options : Options) (given : List Given) (input bytes : List ℕ) (run : FarmResultRun)
    → IsRunOnInput setup options given input bytes run → IsSaid SaysResult given options.sides input bytes
run_says setup options given input bytes run is =
    said_of SaysResult input given options.sides is.job bytes is.of_input is.is_job is.result
