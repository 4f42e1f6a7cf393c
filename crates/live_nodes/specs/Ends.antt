-- The end of a node: its seats, each with the receipts of its caller.
use Rattle.std.specs.Global.{Vec}
use Rattle.std.specs.List.{Contains, list_any}
use Rattle.std.specs.Prelude.{◌≡◌, ℕ, Bool, List, All, length, map, sum_by}
use Rattle.catalog.specs.Entries.{Entry}
use Rattle.held_facts.specs.HeldAnswers.{lacks}
use Rattle.held_facts.specs.HeldFacts.{HoldsTrueFacts}
use Rattle.held_facts.specs.declared.answers.LendFault.{LendFault}
use Rattle.held_facts.specs.declared.answers.LendFault.TheVariants.{NotHeld, Memory}
use Rattle.identity.specs.declared.key.Key.{Key}
use Rattle.live_nodes.specs.Histories.{IsLegal, replay}
use Rattle.live_nodes.specs.declared.event.Event.{Event}
use Rattle.live_nodes.specs.declared.receipt.Receipt.{Receipt}
use Rattle.live_nodes.specs.Accounts.{IsCloseFault}
use Rattle.live_nodes.specs.declared.fault.CloseFault.{CloseFault}

-- a seat's count, and its receipts
abbrev pub End : Type 0
End = ℕ × Vec Receipt

abbrev pub receipts_of : List End → List (List Receipt)
receipts_of ends = map (λ end. end.1.items) ends

-- each seat has as many receipts as it counts calls
abbrev pub HaveAllReceipts : List End → Type 0
HaveAllReceipts ends = All (λ end. length end.1.items ≡ end.0) ends

-- the calls that all seats count together
abbrev pub calls_of : List End → ℕ
calls_of ends = sum_by (λ end. end.0) ends

-- ---- what holds where a lock hides the history

-- a key of which nothing is held is one that was requested
abbrev pub IsAsked : List Key → LendFault → Type 0
IsAsked keys (NotHeld key) = Contains keys key
IsAsked keys Memory = Unit {0}

-- by some legal history that leaves true facts, something is lacking of the keys or nothing is
pub record IsSomeLook (catalog : List Entry) (keys : List Key) (lacking : Bool) : Type 0 where
  pub history : List Event
  pub legal : IsLegal history
  pub truth : HoldsTrueFacts catalog (replay history).held.facts
  pub given : lacking ≡ list_any (lacks (replay history).held.facts) keys

-- by some legal history
abbrev pub IsSomeCloseFault : List End → CloseFault → Type 0
IsSomeCloseFault ends fault = (history : List Event) × IsLegal history × IsCloseFault history (receipts_of ends) fault
