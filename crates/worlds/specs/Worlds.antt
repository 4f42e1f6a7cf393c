-- What a world is: jobs with a schedule of each node for each of them, and nodes with their messages, in which every fact is
-- true. Why there is none, and how far a run of events goes.
use Rattle.std.specs.Prelude.{◌≡◌, ℕ, ◌+◌, ◌≤◌, Bool, Some, List, ◌++◌, length, reverse, slice_get}
use Rattle.catalog.specs.Entries.{AreJobs, IsCatalog}
use Rattle.gossip_core.specs.Histories.{Leads}
use Rattle.gossip_core.specs.Networks.{Network}
use Rattle.gossip_core.specs.Steps.{IsStepFault, WorldWork}
use Rattle.gossip_core.specs.Truths.{AllTrue}
use Rattle.gossip_core.specs.declared.fault.StepFault.TheVariants as steps
use Rattle.gossip_events.specs.declared.event.Event.{Event}
use Rattle.worlds.specs.declared.fault.WorldFault.{WorldFault}
use Rattle.worlds.specs.declared.fault.WorldFault.TheVariants.{BadCount, Memory}

-- ---- what is seen

pub record WorldView : Type 0 where
  pub work : WorldWork
  pub network : Network

-- ---- what holds of each

-- each node has a schedule for each job
abbrev pub HasSchedules : WorldWork → Type 0
HasSchedules u = (n : ℕ) (schedules : List (List Bool)) → slice_get u.schedules n ≡ Some schedules → length schedules ≡ length u.jobs

-- the jobs are distinct and well formed, and each node has its schedules
pub record IsPlannedWork (u : WorldWork) : Type 0 where
  pub apart : IsCatalog u.jobs
  pub jobs : AreJobs u.jobs
  pub each : HasSchedules u

-- and there are as many nodes, and every fact is true
pub record IsWorld (u : WorldWork) (w : Network) : Type 0 where
  pub work : IsPlannedWork u
  pub nodes : length u.schedules ≡ length w.nodes
  pub truth : AllTrue u.jobs w

-- ---- where there is none

-- 1 to 16 nodes, each with a schedule for each job
pub record IsCounted (u : WorldWork) : Type 0 where
  pub least : 1 ≤ length u.schedules
  pub most : length u.schedules ≤ 16
  pub each : HasSchedules u

-- memory is refused only if the counts are good
abbrev pub IsRefusedWorld : WorldWork → WorldFault → Type 0
IsRefusedWorld u BadCount = ¬ (IsCounted u)
IsRefusedWorld u Memory = IsCounted u

-- ---- runs

-- Some events led to the world from which a run went on, some of them accepted. These and the events that it processed lead to
-- the world now; `refused` of the latter were refused.
pub record RunsOn (w : WorldView) (size : ℕ) (h accepted events : List Event) (refused : ℕ) : Type 0 where
  pub later : List Event
  pub leads : Leads w.work size (reverse events ++ h) later w.network
  pub count : length later + refused ≡ length accepted + length events

-- the next event is one for which memory may be refused
pub record StopsAt (w : WorldView) (events : List Event) (n : ℕ) : Type 0 where
  pub event : Event
  pub next : slice_get events n ≡ Some event
  pub memory : IsStepFault w.work w.network event steps.Memory
