-- The events after one more line.
use Rattle.std.specs.Prelude.{◌≡◌, ℕ, ◌⊎◌, true, false, List, [], ◌∷◌, ◌++◌}
use Rattle.catalog.specs.Entries.{Entry}
use Rattle.gossip_events.specs.Scripts.{TellsEvent, is_passed_over}
use Rattle.gossip_events.specs.declared.event.Event.{Event}

-- the events after a line: unchanged if it is passed over, else with the event that it specifies
abbrev pub Adds : List Entry → List ℕ → List Event → List Event → Type 0
Adds jobs line old new =
    ((is_passed_over line ≡ true) × (new ≡ old))
    ⊎ ((is_passed_over line ≡ false) × ((event : Event) × TellsEvent jobs line event × (new ≡ old ++ event ∷ [])))
