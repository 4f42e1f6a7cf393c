-- What a farm leaves: the histories of its nodes.
use Rattle.std.specs.Prelude.{List, fold}
use Rattle.live_nodes.specs.Histories.{replay, IsLegal}
use Rattle.live_nodes.specs.declared.event.Event.{Event}
use Rattle.catalog.specs.Entries.{Entry}
use Rattle.fact_store.specs.Facts.{FactSet, nothing, join}
use Rattle.held_facts.specs.HeldFacts.{HoldsTrueFacts}

-- a node's history is legal, and leaves only true facts
pub record IsSoundEnd (catalog : List Entry) (history : List Event) : Type 0 where
  pub legal : IsLegal history
  pub truth : HoldsTrueFacts catalog (replay history).held.facts

-- all facts that any node holds after its history, whatever is retired at others
abbrev pub all_held : List (List Event) → FactSet
all_held histories = fold (λ s history. join s (replay history).held.facts) nothing histories
