-- The events that let a node of a world hold all tiles of a job, and why there are none.
use Rattle.std.specs.Prelude.{◌≡◌, ℕ, ◌<◌, ◌≤◌, Bool, true, false, Some, List, length, slice_get}
use Rattle.catalog.specs.Entries.{Entry, ids_of}
use Rattle.tile_boxes.specs.Schedules.{StoresOutputs}
use Rattle.identity.specs.declared.key.Key.{Key}
use Rattle.node_state.specs.States.{retires}
use Rattle.overlap_tiles.specs.Work.{find_key_over_scratch_limit, wanted_keys, work_keys}
use Rattle.gossip_core.specs.Finishing.{GivesAll, IsPlanned, NoneRefused, lacked_work, makings}
use Rattle.gossip_core.specs.Steps.{held}
use Rattle.gossip_events.specs.declared.event.Event.{Event}
use Rattle.worlds.specs.Worlds.{WorldView}
use Rattle.worlds.specs.declared.fault.FinishFault.{FinishFault}
use Rattle.worlds.specs.declared.fault.FinishFault.TheVariants.{NoSuchNode, NoSuchJob, Retired, ScratchTooBig, Memory}

-- A making and a delivery for each tile that node n lacks of job j, which it has not retired. They are in the order in which
-- they can be made. If they come next, none is refused, and then n holds all tiles of stored functions and accumulators. If
-- its schedule stores the outputs, n also holds all from which the answer is assembled.
pub record Finishes (w : WorldView) (n j : ℕ) (events : List Event) : Type 0 where
  pub entry : Entry
  pub inlining : List Bool
  pub planned : IsPlanned w.work n j entry inlining
  pub are : events ≡ makings n (length w.network.messages) (lacked_work (held w.network n).facts entry inlining)
  pub accepted : NoneRefused w.work w.network events
  pub work : GivesAll w.work w.network n events (work_keys (ids_of entry).program entry.pipeline inlining)
  pub wanted : StoresOutputs entry.pipeline inlining
      → GivesAll w.work w.network n events (wanted_keys (ids_of entry).program entry.pipeline)

-- job j is there, and node n has retired it, or not
pub record IsRetiredAt (w : WorldView) (n j : ℕ) (is : Bool) : Type 0 where
  pub entry : Entry
  pub there : slice_get w.work.jobs j ≡ Some entry
  pub retired : retires (held w.network n) (ids_of entry) ≡ is

-- the job is not retired, and among the tiles that are lacked this key's is the first that takes too much scratch memory
pub record LacksRoom (w : WorldView) (n j : ℕ) (key : Key) : Type 0 where
  pub entry : Entry
  pub inlining : List Bool
  pub planned : IsPlanned w.work n j entry inlining
  pub live : retires (held w.network n) (ids_of entry) ≡ false
  pub first : find_key_over_scratch_limit entry.pipeline inlining (lacked_work (held w.network n).facts entry inlining) ≡ Some key

-- memory is refused only if the node and the job exist, and the node has not retired it
abbrev pub IsFinishFault : WorldView → ℕ → ℕ → FinishFault → Type 0
IsFinishFault w n j NoSuchNode = length w.network.nodes ≤ n
IsFinishFault w n j NoSuchJob = (n < length w.network.nodes) × (length w.work.jobs ≤ j)
IsFinishFault w n j Retired = (n < length w.network.nodes) × IsRetiredAt w n j true
IsFinishFault w n j (ScratchTooBig key) = LacksRoom w n j key
IsFinishFault w n j Memory = (n < length w.network.nodes) × IsRetiredAt w n j false
