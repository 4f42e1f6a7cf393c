-- Why a text is no script: its first faulty line.
use Rattle.std.specs.Prelude.{◌≡◌, ℕ, ◌+◌, ◌<◌, false, List, ◌∷◌, ◌++◌, length}
use Rattle.catalog.specs.Entries.{Entry}
use Rattle.gossip_events.specs.Scripts.{AreEvents, IsAsked, SpellsOrder, is_passed_over, lines, most_events, words}
use Rattle.gossip_events.specs.declared.event.Event.{Event}
use Rattle.gossip_events.specs.declared.fault.ScriptFault.{ScriptFault}
use Rattle.gossip_events.specs.declared.fault.ScriptFault.TheVariants.{BadLine, NoSuchJob, TooManyEvents, Memory}
use Rattle.gossip_events.specs.declared.order.ScriptRequest.{ScriptRequest}

-- the line requests nothing, whatever jobs there are
abbrev pub IsBadLine : List ℕ → Type 0
IsBadLine line = (order : ScriptRequest) → ¬ SpellsOrder (words line) order

-- it requests something, and the catalog lacks a job that it names
abbrev pub LacksJob : List Entry → List ℕ → Type 0
LacksJob jobs line = (order : ScriptRequest) × SpellsOrder (words line) order × ((event : Event) → ¬ IsAsked jobs order event)

-- the fault of a line that should specify an event, with this number and this count of events before it
abbrev pub IsLineFault : List Entry → ℕ → ℕ → List ℕ → ScriptFault → Type 0
IsLineFault jobs number count line (BadLine at) = (count < most_events) × (at ≡ number) × IsBadLine line
IsLineFault jobs number count line (NoSuchJob at) = (count < most_events) × (at ≡ number) × LacksJob jobs line
IsLineFault jobs number count line TooManyEvents = count ≡ most_events
IsLineFault jobs number count line Memory = count < most_events

-- a line at fault, while those before it specify events; lines are counted from 1
pub record IsScriptFault (jobs : List Entry) (text : List ℕ) (fault : ScriptFault) : Type 0 where
  pub before : List (List ℕ)
  pub line : List ℕ
  pub after : List (List ℕ)
  pub parts : lines text ≡ before ++ line ∷ after
  pub events : List Event
  pub good : AreEvents jobs before events
  pub tells : is_passed_over line ≡ false
  pub wrong : IsLineFault jobs (length before + 1) (length events) line fault
