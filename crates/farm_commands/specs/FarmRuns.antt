-- The run of a farm on the job of an input, and the result that it gives.
use Rattle.std.specs.Prelude.{◌≡◌, List, [], ◌∷◌, ℕ, All, length}
use Rattle.catalog.specs.Entries.{Entry, entry_of}
use Rattle.command_inputs.specs.Giving.{Given}
use Rattle.command_inputs.specs.Input.{IsReadJob}
use Rattle.command_jobs.specs.RequestedSchedule.{requested_inlining}
use Rattle.command_jobs.specs.Results.{result_bytes}
use Rattle.command_line.specs.declared.options.Options.{Options}
use Rattle.command_outcomes.specs.Outcomes.{Saying}
use Rattle.farm.specs.Reports.{IsSoundEnd, all_held}
use Rattle.farm.specs.WorkerRuns.{HaveRun}
use Rattle.farm_answers.specs.Answering.{missing_work}
use Rattle.farm_commands.specs.declared.result_run.FarmResultRun.{FarmResultRun}
use Rattle.farm_setup.specs.declared.setup.FarmSetup.{FarmSetup}
use Rattle.identity.specs.declared.key.Key.{Key}
use Rattle.job.specs.Kept.{pipeline_in}
use Rattle.job.specs.WellFormed.{IsJob}
use Rattle.job.specs.declared.job.Job.{Job}
use Rattle.live_nodes.specs.declared.event.Event.{Event}

-- the tiles that the nodes of a farm leave to the caller: those of which none holds anything, by the schedule that the options
-- request
abbrev pub tiles_left : Options → Entry → List (List Event) → List Key
tiles_left options job histories =
    missing_work (job ∷ []) 0 (requested_inlining options.stored options.percent job.pipeline) (all_held histories)

-- A farm of this setup ran on the job, by the schedule that the options request. Each of its nodes is closed with a legal history
-- that leaves only true facts, and that its two workers account for. The caller made as many tiles as these leave.
pub record IsRunOnJob (setup : FarmSetup) (options : Options) (job : Entry) (run : FarmResultRun) : Type 0 where
  pub as_set_up : run.setup ≡ setup
  pub nodes : length run.closed.items ≡ setup.nodes
  pub closed : All (IsSoundEnd (job ∷ [])) run.closed.items
  pub worked : HaveRun (job ∷ []) 0 (requested_inlining options.stored options.percent job.pipeline) setup run.closed.items
  pub by_caller : run.by_caller ≡ length (tiles_left options job run.closed.items)

-- the input has a job at the values that are given, the farm ran on it, and the bytes are its result
pub record IsRunOnInput (setup : FarmSetup) (options : Options) (given : List Given) (input bytes : List ℕ) (run : FarmResultRun) : Type 0
  where
    pub job : Job
    pub of_input : IsReadJob input given options.sides job
    pub is_job : IsJob (pipeline_in job)
    pub on_job : IsRunOnJob setup options (entry_of job) run
    pub result : bytes ≡ result_bytes (pipeline_in job)

-- what `run` says of an input where its farm ran so
abbrev pub saying_of_run : FarmSetup → Options → List Given → Saying FarmResultRun
saying_of_run setup options given run input bytes = IsRunOnInput setup options given input bytes run
