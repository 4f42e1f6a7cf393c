-- What a book keeps, and what it means to record an event.
use Rattle.std.specs.Prelude.{◌≡◌, ◌≤◌, ℕ, List, [], ◌∷◌, ◌++◌, drop, length}
use Rattle.catalog.specs.Entries.{Entry, IsCatalog}
use Rattle.held_facts.specs.HeldFacts.{HoldsTrueFacts}
use Rattle.node_state.specs.States.{State, join}
use Rattle.live_nodes.specs.Histories.{IsLegal, replay}
use Rattle.live_nodes.specs.Updates.{state_of}
use Rattle.live_nodes.specs.declared.event.Event.{Event}
use Rattle.live_nodes.specs.declared.event.Event.TheVariants.{Lent, Took, Kept, Restarted}
use Rattle.tile_fact.specs.declared.update.Update.{Update}
use Rattle.live_nodes.specs.declared.receipt.Receipt.{Receipt}

-- the updates that these events took, in order
abbrev pub updates_of : Event → List Update
updates_of (Lent keys retired) = []
updates_of (Took updates) = updates
updates_of Kept = []
updates_of Restarted = []

abbrev pub updates_in : List Event → List Update
updates_in [] = []
updates_in (e ∷ events) = updates_of e ++ updates_in events

-- what is held and kept is what a legal history leaves, and true of the jobs of the catalog. What is held is what is kept and what
-- was taken since, after the first `since` events
pub record IsBook (catalog : List Entry) (held kept : State) (since : ℕ) (history : List Event) : Type 0 where
  pub jobs : IsCatalog catalog
  pub stands : replay history ≡ record { held = held; kept = kept }
  pub legal : IsLegal history
  pub true_held : HoldsTrueFacts catalog held.facts
  pub true_kept : HoldsTrueFacts catalog kept.facts
  pub within : since ≤ length history
  pub recent : held ≡ join kept (state_of (updates_in (drop since history)))

-- the event is appended to the history, and the receipt has it with its number
pub record IsRecorded (old new : List Event) (event : Event) (receipt : Receipt) : Type 0 where
  pub appended : new ≡ old ++ event ∷ []
  pub number : receipt.number ≡ length old
  pub told : receipt.event ≡ event
