-- What a worker has done once it has gone through all its turns.
use Rattle.std.specs.Prelude.{◌≡◌, ◌*◌, ◌/◌, ℕ, Bool, false, List, [], Some, length, replicate, slice_get}
use Rattle.catalog.specs.Entries.{Entry, entry_of, ids_of}
use Rattle.farm.specs.Members.{EachAt}
use Rattle.farm.specs.NodeEnds.{HaveClosed, IsClosingFault}
use Rattle.farm.specs.WorkerLogs.{HasLog, Traces, WorkedFarm}
use Rattle.farm.specs.declared.fault.FarmFault.{FarmFault}
use Rattle.farm.specs.declared.fault.FarmFault.TheVariants.{SpawnFailed, Memory, Close}
use Rattle.farm.specs.declared.hand.WorkerReceipts.{WorkerReceipts}
use Rattle.farm_setup.specs.declared.setup.FarmSetup.{FarmSetup}
use Rattle.farm_turns.specs.Shifts.{GoesThrough}
use Rattle.farm_turns.specs.Turns.{Progress}
use Rattle.farm_turns.specs.declared.rules.TurnRules.{TurnRules}
use Rattle.identity.specs.declared.key.Key.{Key}
use Rattle.job.specs.declared.job.Job.{Job}
use Rattle.live_nodes.specs.declared.event.Event.{Event}
use Rattle.live_nodes.specs.declared.receipt.Receipt.{Receipt}
use Rattle.overlap_tiles.specs.Work.{work_keys}

-- before the first turn nothing is called, and nothing counted
abbrev pub no_progress : Progress
no_progress = record { log = []; repeated = 0; lost = 0; settled = 0; settling = false }

-- a worker with these rules has gone through all its turns. Its place shows all its calls, and these are its receipts
pub record HasWorked (catalog : List Entry) (farm : WorkedFarm) (rules : TurnRules) (kept : List Receipt) : Type 0 where
  pub after : Progress
  pub through : GoesThrough rules no_progress rules.setup.turns after
  pub traces : Traces
  pub log : HasLog catalog farm traces after.log
  pub receipts : traces.receipts ≡ kept

-- the worker of this number has: there are two to a node, and all are set up alike
pub record HasWorkedAs (catalog : List Entry) (farm : WorkedFarm) (keys : List Key) (setup : FarmSetup) (number : ℕ) (kept : List Receipt) : Type 0 where
  pub rules : TurnRules
  pub number_is : rules.number ≡ number
  pub home : rules.home ≡ number / 2
  pub setup_is : rules.setup ≡ setup
  pub keys_are : rules.keys.now ≡ keys
  pub worked : HasWorked catalog farm rules kept

-- the ends of all workers. Each that met no end of memory has gone through all its turns
pub record AreWorkerEnds (catalog : List Entry) (farm : WorkedFarm) (keys : List Key) (setup : FarmSetup) (ends : List WorkerReceipts) : Type 0 where
  pub count : length ends ≡ 2 * setup.nodes
  pub worked : EachAt (λ number end. end.memory ≡ false → HasWorkedAs catalog farm keys setup number end.receipts.items) ends

-- why a farm has no answer: a thread could not be started, or memory was refused, or a receipt of the workers of some node does not
-- match its history
abbrev pub IsFarmFault : List Entry → WorkedFarm → List Key → FarmSetup → FarmFault → Type 0
IsFarmFault catalog farm keys setup (SpawnFailed refusal) = Unit {0}
IsFarmFault catalog farm keys setup Memory = Unit {0}
IsFarmFault catalog farm keys setup (Close refusal) =
    (ends : List WorkerReceipts) × AreWorkerEnds catalog farm keys setup ends × IsClosingFault setup.nodes ends (Close refusal)

-- the histories are those of the nodes of a farm: each has two workers, which went through all their turns, and their receipts
-- account for it
pub record AreFarmHistories (catalog : List Entry) (farm : WorkedFarm) (keys : List Key) (setup : FarmSetup) (histories : List (List Event)) : Type 0 where
  pub ends : List WorkerReceipts
  pub count : length ends ≡ 2 * setup.nodes
  pub worked : EachAt (λ number end. HasWorkedAs catalog farm keys setup number end.receipts.items) ends
  pub closed : HaveClosed histories ends

-- at a job of a catalog, with this inlining. Each node has a mailbox, and all of them have one capacity
abbrev pub farm_of : Entry → List Bool → FarmSetup → WorkedFarm
farm_of entry inlining setup =
    record {
      program = (ids_of entry).program;
      pipeline = entry.pipeline;
      inlining = inlining;
      mailboxes = replicate setup.nodes setup.capacity;
    }

abbrev pub farm_of_job : Job → List Bool → FarmSetup → WorkedFarm
farm_of_job job inlining setup = farm_of (entry_of job) inlining setup

-- why a farm at the job of this number has no answer
abbrev pub IsRunFault : List Entry → ℕ → List Bool → FarmSetup → FarmFault → Type 0
IsRunFault catalog job inlining setup fault =
    (entry : Entry) → slice_get catalog job ≡ Some entry
    → IsFarmFault catalog (farm_of entry inlining setup) (work_keys (ids_of entry).program entry.pipeline inlining) setup fault

-- they are those of a farm that worked at the job of this number
abbrev pub HaveRun : List Entry → ℕ → List Bool → FarmSetup → List (List Event) → Type 0
HaveRun catalog job inlining setup histories =
    (entry : Entry) → slice_get catalog job ≡ Some entry
    → AreFarmHistories catalog (farm_of entry inlining setup) (work_keys (ids_of entry).program entry.pipeline inlining) setup histories
