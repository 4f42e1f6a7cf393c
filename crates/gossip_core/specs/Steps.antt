-- What each event does to the nodes and the messages of a world, and why it is refused. An event is refused by the first of its
-- faults, and then changes nothing.
use Rattle.std.specs.List.{All, Any}
use Rattle.std.specs.Prelude.{◌≡◌, ◌≢◌, ℕ, ◌<◌, ◌≤◌, Bool, Some, List, [], ◌∷◌, ◌++◌, length, slice_get, slice_set, unwrap_or}
use Rattle.std.specs.Option.{option_map_or}
use Rattle.catalog.specs.Entries.{Entry, StandsAt, ids_in}
use Rattle.identity.specs.declared.key.Key.{Key}
use Rattle.tile_fact.specs.declared.fact.Fact.{Fact}
use Rattle.held_facts.specs.Answers.{AreHeld, IsLeastNotHeld}
use Rattle.held_facts.specs.declared.make_fault.MakeFault.{MakeFault}
use Rattle.held_facts.specs.declared.make_fault.MakeFault.TheVariants as makes
use Rattle.node_state.specs.Making.{IsMade, IsMakeFault}
use Rattle.node_state.specs.States.{State, nothing, join, count_lacked, lent, of_fact, of_retirement}
use Rattle.gossip_events.specs.declared.event.Event.{Event}
use Rattle.gossip_events.specs.declared.event.Event.TheVariants.{Make, Retire, Send, Deliver, Merge, Keep, Restart}
use Rattle.gossip_core.specs.Networks.{Network, NodeStates, Sent}
use Rattle.gossip_core.specs.declared.done.Done.{Done}
use Rattle.gossip_core.specs.declared.done.Done.TheVariants as does
use Rattle.gossip_core.specs.declared.fault.StepFault.{StepFault}
use Rattle.gossip_core.specs.declared.fault.StepFault.TheVariants as faults

-- ---- jobs and schedules

-- for each node, for each job, which stages it inlines
abbrev pub Schedules : Type 0
Schedules = List (List (List Bool))

-- the jobs of a world, and each node's schedules for them
pub record WorldWork : Type 0 where
  pub jobs : List Entry
  pub schedules : Schedules

-- node n's schedule for the job that the key names
pub record IsScheduleFor (u : WorldWork) (n : ℕ) (key : Key) (inlining : List Bool) : Type 0 where
  pub job : ℕ
  pub there : StandsAt u.jobs (ids_in key) job
  pub schedules : List (List Bool)
  pub of_node : slice_get u.schedules n ≡ Some schedules
  pub of_job : slice_get schedules job ≡ Some inlining

-- ---- nodes and messages

abbrev pub no_states : NodeStates
no_states = record { held = nothing; kept = nothing }

abbrev pub states_at : List NodeStates → ℕ → NodeStates
states_at nodes n = unwrap_or (slice_get nodes n) no_states

-- what node n holds, and what it keeps
abbrev pub held : Network → ℕ → State
held w n = (states_at w.nodes n).held

abbrev pub kept : Network → ℕ → State
kept w n = (states_at w.nodes n).kept

-- the state that message k carries
abbrev pub state_at : List Sent → ℕ → State
state_at messages k = option_map_or (λ m. m.state) (slice_get messages k) nothing

abbrev pub with_held : Network → ℕ → State → Network
with_held w n s = record w { nodes = slice_set w.nodes n (record { held = s; kept = kept w n }) }

abbrev pub with_kept : Network → ℕ → State → Network
with_kept w n s = record w { nodes = slice_set w.nodes n (record { held = held w n; kept = s }) }

abbrev pub with_message : Network → ℕ → State → Network
with_message w to s = record w { messages = w.messages ++ (record { to = to; state = s }) ∷ [] }

-- ---- what an event does

-- the nodes that it names
abbrev pub nodes_of : Event → List ℕ
nodes_of (Make n key) = n ∷ []
nodes_of (Retire n ids) = n ∷ []
nodes_of (Send n m keys) = n ∷ m ∷ []
nodes_of (Deliver n k) = n ∷ []
nodes_of (Merge a b) = a ∷ b ∷ []
nodes_of (Keep n) = n ∷ []
nodes_of (Restart n) = n ∷ []

abbrev pub HasNodes : Network → Event → Type 0
HasNodes w e = All (λ n. n < length w.nodes) (nodes_of e)

-- node n makes the fact of the key from what it holds
pub record Makes (u : WorldWork) (w : Network) (n : ℕ) (key : Key) (fact : Fact) : Type 0 where
  pub of_key : fact.key ≡ key
  pub inlining : List Bool
  pub schedule : IsScheduleFor u n key inlining
  pub made : IsMade u.jobs (held w n) inlining fact

abbrev pub Does : WorldWork → Network → Event → Network → Type 0
-- the fact is sent to the node itself
Does u w (Make n key) new = (fact : Fact) × Makes u w n key fact × (new ≡ with_message w n (of_fact fact))
-- and so is a retirement, of any job
Does u w (Retire n ids) new = new ≡ with_message w n (of_retirement ids)
-- all held facts of the keys are sent, and all retirements
Does u w (Send n m keys) new = AreHeld (held w n).facts keys × (new ≡ with_message w m (lent (held w n) keys))
-- the state of a message to the node is joined to what it holds
Does u w (Deliver n k) new = (m : Sent) × (slice_get w.messages k ≡ Some m) × (m.to ≡ n) × (new ≡ with_held w n (join (held w n) m.state))
Does u w (Merge a b) new = new ≡ with_held w a (join (held w a) (held w b))
Does u w (Keep n) new = new ≡ with_kept w n (held w n)
Does u w (Restart n) new = new ≡ with_held w n (kept w n)

-- an event that is accepted, and the world after it
abbrev pub Accepts : WorldWork → Network → Event → Network → Type 0
Accepts u w e new = HasNodes w e × Does u w e new

-- ---- what it answers

abbrev pub IsNew : State → State → Done → Type 0
IsNew before after (does.New count) = count ≡ count_lacked before after
IsNew before after _ = ⊥

-- the number of the message that was sent, or how many facts and retirements are new
abbrev pub IsDone : Network → Event → Network → Done → Type 0
IsDone w (Make n key) new d = d ≡ does.Message (length w.messages)
IsDone w (Retire n ids) new d = d ≡ does.Message (length w.messages)
IsDone w (Send n m keys) new d = d ≡ does.Message (length w.messages)
IsDone w (Deliver n k) new d = IsNew (held w n) (held new n) d
IsDone w (Merge a b) new d = IsNew (held w a) (held new a) d
IsDone w (Keep n) new d = d ≡ does.Kept
IsDone w (Restart n) new d = d ≡ does.Restarted

-- ---- why it is refused

-- why node n makes no fact of the key
abbrev pub CannotMake : WorldWork → Network → ℕ → Key → MakeFault → Type 0
CannotMake u w n key makes.Foreign = (i : ℕ) → ¬ (StandsAt u.jobs (ids_in key) i)
CannotMake u w n key fault = (inlining : List Bool) × IsScheduleFor u n key inlining × IsMakeFault u.jobs (held w n) inlining key fault

-- the message exists
abbrev pub HasMessage : Network → Event → Type 0
HasMessage w (Deliver n k) = k < length w.messages
HasMessage w _ = Unit {0}

-- and it is for another node
abbrev pub IsMisaddressed : Network → Event → Type 0
IsMisaddressed w (Deliver n k) = (m : Sent) × (slice_get w.messages k ≡ Some m) × (m.to ≢ n)
IsMisaddressed w _ = ⊥

abbrev pub MakesNothing : WorldWork → Network → Event → MakeFault → Type 0
MakesNothing u w (Make n key) fault = CannotMake u w n key fault × (fault ≢ makes.Memory)
MakesNothing u w _ fault = ⊥

-- the least key that is requested and not held
abbrev pub AsksInVain : Network → Event → Key → Type 0
AsksInVain w (Send n m keys) key = IsLeastNotHeld (held w n).facts keys key
AsksInVain w _ key = ⊥

-- The first fault of an event. Memory is refused only if the nodes and the message exist, and the message is for the node.
abbrev pub IsStepFault : WorldWork → Network → Event → StepFault → Type 0
IsStepFault u w e faults.NoSuchNode = Any (λ n. length w.nodes ≤ n) (nodes_of e)
IsStepFault u w e faults.NoSuchMessage = HasNodes w e × ¬ HasMessage w e
IsStepFault u w e faults.WrongAddress = HasNodes w e × IsMisaddressed w e
IsStepFault u w e (faults.Make fault) = HasNodes w e × MakesNothing u w e fault
IsStepFault u w e (faults.NotHeld key) = HasNodes w e × AsksInVain w e key
IsStepFault u w e faults.Memory = HasNodes w e × HasMessage w e × ¬ IsMisaddressed w e

-- a refused event changes nothing
pub record Refuses (u : WorldWork) (w : Network) (e : Event) (new : Network) (fault : StepFault) : Type 0 where
  pub first : IsStepFault u w e fault
  pub unchanged : new ≡ w
