-- What a node makes from a state, by its own schedule, and what it cannot make.
use Rattle.std.specs.Prelude.{◌≡◌, ℕ, Bool, Some, List}
use Rattle.catalog.specs.Entries.{Entry, StandsAt, ids_in}
use Rattle.identity.specs.declared.key.Key.{Key}
use Rattle.tile_fact.specs.declared.fact.Fact.{Fact}
use Rattle.held_facts.specs.Facts.{FactSet}
use Rattle.held_facts.specs.declared.make_fault.MakeFault.{MakeFault}
use Rattle.held_facts.specs.declared.make_fault.MakeFault.TheVariants as makes
use Rattle.node_state.specs.Making.{IsMade, IsMakeFault}
use Rattle.node_state.specs.States.{State}
use Rattle.overlap_tiles.specs.Work.{find_key_over_scratch_limit}
use Rattle.gossip_core.specs.Finishing.{lacked_work}
use Rattle.gossip_core.specs.Steps.{IsScheduleFor, WorldWork}
use Rattle.gossip_core.specs.declared.fault.StepFault.{StepFault}
use Rattle.gossip_core.specs.declared.fault.StepFault.TheVariants as faults
use Rattle.worlds.specs.declared.fault.FinishFault.{FinishFault}
use Rattle.worlds.specs.declared.fault.FinishFault.TheVariants as finish

-- the fact of the key, by the schedule of node n
pub record IsMadeBy (u : WorldWork) (n : ℕ) (s : State) (key : Key) (fact : Fact) : Type 0 where
  pub of_key : fact.key ≡ key
  pub inlining : List Bool
  pub schedule : IsScheduleFor u n key inlining
  pub made : IsMade u.jobs s inlining fact

-- why there is none
abbrev pub CannotBeMade : WorldWork → ℕ → State → Key → MakeFault → Type 0
CannotBeMade u n s key makes.Foreign = (i : ℕ) → ¬ (StandsAt u.jobs (ids_in key) i)
CannotBeMade u n s key fault = (inlining : List Bool) × IsScheduleFor u n key inlining × IsMakeFault u.jobs s inlining key fault

-- how that is reported
abbrev pub refusal_of : MakeFault → StepFault
refusal_of makes.Memory = faults.Memory
refusal_of fault = faults.Make fault

-- the first of the lacked tiles that does not fit in scratch memory
abbrev pub IsRoomFault : FactSet → Entry → List Bool → FinishFault → Type 0
IsRoomFault s entry inlining (finish.ScratchTooBig key) = find_key_over_scratch_limit entry.pipeline inlining (lacked_work s entry inlining)
    ≡ Some key
IsRoomFault s entry inlining finish.Memory = Unit {0}
IsRoomFault s entry inlining _ = ⊥
