-- Which updates came to a node, and what these updates leave. It is stated by the parts of the list of accepted events and by
-- messages. It has no state but those of messages. A list has its newest event first.
use Rattle.std.specs.Prelude.{◌≡◌, ◌≢◌, ◌⊎◌, ℕ, List, [], ◌∷◌, ◌++◌}
use Rattle.tile_fact.specs.declared.update.Update.{Update}
use Rattle.states.specs.Updates.{IsLeftBy, Leave, Shows}
use Rattle.node_state.specs.States.{IsBelow, IsState, State}
use Rattle.gossip_events.specs.declared.event.Event.{Event}
use Rattle.gossip_events.specs.declared.event.Event.TheVariants.{Deliver, Keep, Merge, Restart}
use Rattle.gossip_core.specs.Networks.{Sent}
use Rattle.gossip_core.specs.Steps.{state_at}

-- none of the events is this one
abbrev pub HasNo : Event → List Event → Type 0
HasNo wanted [] = Unit {0}
HasNo wanted (e ∷ events) = (e ≢ wanted) × HasNo wanted events

-- the update came to node n
pub data Came (messages : List Sent) (update : Update) : List Event → ℕ → Type 0 where
  -- in a message that came after the last restart
  By_delivery :
      (h later before : List Event) (n k : ℕ) → h ≡ later ++ Deliver n k ∷ before → HasNo (Restart n) later
      → Shows (state_at messages k) update → Came messages update h n
  -- to another node that was merged in after the last restart
  By_merge :
      (h later before : List Event) (n other : ℕ) → h ≡ later ++ Merge n other ∷ before → HasNo (Restart n) later
      → Came messages update before other → Came messages update h n
  -- before the last keep before the last restart
  By_keep :
      (h later between before : List Event) (n : ℕ) → h ≡ later ++ Restart n ∷ (between ++ Keep n ∷ before) → HasNo (Restart n) later
      → HasNo (Keep n) between → Came messages update before n → Came messages update h n

-- the update had come to node n at its last keep
pub record CameAtKeep (messages : List Sent) (update : Update) (h : List Event) (n : ℕ) : Type 0 where
  pub between : List Event
  pub before : List Event
  pub parts : h ≡ between ++ Keep n ∷ before
  pub last : HasNo (Keep n) between
  pub came : Came messages update before n

-- node n took the update: it is among what those leave that came to the node
abbrev pub HasTaken : List Sent → List Event → ℕ → Update → Type 0
HasTaken messages h n update = Leave (λ came. Came messages came h n) update

-- the state is what node n took
abbrev pub IsTaken : List Sent → List Event → ℕ → State → Type 0
IsTaken messages h n s = IsLeftBy (λ update. Came messages update h n) s

-- or what it had taken at its last keep
abbrev pub IsTakenAtKeep : List Sent → List Event → ℕ → State → Type 0
IsTakenAtKeep messages h n s = IsLeftBy (λ update. CameAtKeep messages update h n) s

-- ---- the same by its parts: which states come together in what node n took

-- the state of a message that came after the last restart
pub record IsDelivered (messages : List Sent) (h : List Event) (n : ℕ) (part : State) : Type 0 where
  pub later : List Event
  pub before : List Event
  pub message : ℕ
  pub parts : h ≡ later ++ Deliver n message ∷ before
  pub last : HasNo (Restart n) later
  pub tells : part ≡ state_at messages message

-- what another node had taken that was merged in after the last restart
pub record IsMergedIn (messages : List Sent) (h : List Event) (n : ℕ) (part : State) : Type 0 where
  pub later : List Event
  pub before : List Event
  pub other : ℕ
  pub parts : h ≡ later ++ Merge n other ∷ before
  pub last : HasNo (Restart n) later
  pub taken : IsTaken messages before other part

-- what it had taken itself at the last keep before the last restart
pub record IsBroughtBack (messages : List Sent) (h : List Event) (n : ℕ) (part : State) : Type 0 where
  pub later : List Event
  pub between : List Event
  pub before : List Event
  pub parts : h ≡ later ++ Restart n ∷ (between ++ Keep n ∷ before)
  pub last : HasNo (Restart n) later
  pub last_keep : HasNo (Keep n) between
  pub taken : IsTaken messages before n part

abbrev pub IsPart : List Sent → List Event → ℕ → State → Type 0
IsPart messages h n part = IsDelivered messages h n part ⊎ (IsMergedIn messages h n part ⊎ IsBroughtBack messages h n part)

-- a part of what it had taken at its last keep; there is none where it never kept
pub record IsPartAtKeep (messages : List Sent) (h : List Event) (n : ℕ) (part : State) : Type 0 where
  pub between : List Event
  pub before : List Event
  pub parts : h ≡ between ++ Keep n ∷ before
  pub last_keep : HasNo (Keep n) between
  pub part_then : IsPart messages before n part

-- the least state that none of the parts exceeds
pub record IsJoinOf (Part : State → Type 0) (s : State) : Type 0 where
  pub state : IsState s
  pub each : (part : State) → Part part → IsBelow part s
  pub least : (other : State) → ((part : State) → Part part → IsBelow part other) → IsBelow s other
