-- What `world` reports: to which world the events of the script lead, from so many nodes that hold nothing.
use Rattle.std.specs.Prelude.{◌≡◌, ℕ, ◌+◌, Bool, List, length, map, replicate, reverse}
use Rattle.catalog.specs.Entries.{Entry}
use Rattle.command_line.specs.declared.options.Options.{Options}
use Rattle.gossip_core.specs.Histories.{Leads}
use Rattle.gossip_core.specs.Networks.{Network}
use Rattle.gossip_core.specs.Steps.{WorldWork}
use Rattle.gossip_events.specs.declared.event.Event.{Event}
use Rattle.command_inputs.specs.Giving.{Given}
use Rattle.command_outcomes.specs.Outcomes.{Saying}
use Rattle.job.specs.Pipeline.{Pipeline}
use Rattle.job.specs.WellFormed.{IsJob}
use Rattle.command_inputs.specs.JobCatalog.{catalog_of}
use Rattle.command_jobs.specs.RequestedSchedule.{requested_inlining}
use Rattle.pipe_tree.specs.Tree.{Declaration}
use Rattle.world_commands.specs.WorldInput.{IsInputWorld}
use Rattle.world_commands.specs.WorldLines.{world_lines}

-- which functions of each job are inlined
abbrev pub inlinings : Bool → ℕ → List Entry → List (List Bool)
inlinings stored percent jobs = map (λ entry. requested_inlining stored percent entry.pipeline) jobs

-- the work of so many nodes, which all inline the same functions
abbrev pub work_of : ℕ → Bool → ℕ → List Entry → WorldWork
work_of size stored percent jobs = record { jobs = jobs; schedules = replicate size (inlinings stored percent jobs) }

-- All events were processed, and led from nodes that hold nothing to this world. Those that were not accepted were refused. The
-- bytes report the world.
pub record IsOutcome (u : WorldWork) (size : ℕ) (events : List Event) (bytes : List ℕ) : Type 0 where
  pub accepted : List Event
  pub world : Network
  pub leads : Leads u size (reverse events) accepted world
  pub refused : ℕ
  pub count : length accepted + refused ≡ length events
  pub says : bytes ≡ world_lines (length events) refused size world

-- the bytes are what is reported of the job and the events of an input, by the schedule that the options request
pub record IsSaidOfWorld (size : ℕ) (options : Options) (given : List Given) (input bytes : List ℕ) : Type 0 where
  pub tree : List Declaration
  pub job : Pipeline
  pub events : List Event
  pub is_job : IsJob job
  pub of_input : IsInputWorld input given options.sides tree job events
  pub says : IsOutcome (work_of size options.stored options.percent (catalog_of tree job)) size events bytes

abbrev pub saying_of_world : ℕ → Options → List Given → Saying (Unit {0})
saying_of_world size options given answer input bytes = IsSaidOfWorld size options given input bytes
