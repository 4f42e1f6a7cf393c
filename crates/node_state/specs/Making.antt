-- What a node makes of a tile from the facts that it holds, and why it makes nothing.
use Rattle.std.specs.Prelude.{◌≡◌, Bool, List, true, false}
use Rattle.catalog.specs.Entries.{Entry}
use Rattle.fact_audit.specs.TrueFacts.{HasJob}
use Rattle.identity.specs.Keys.{ids_in}
use Rattle.identity.specs.declared.key.Key.{Key}
use Rattle.job.specs.Identity.{HasTileAt}
use Rattle.tile_fact.specs.declared.fact.Fact.{Fact}
use Rattle.held_facts.specs.Making as held
use Rattle.held_facts.specs.declared.make_fault.MakeFault.{MakeFault}
use Rattle.held_facts.specs.declared.make_fault.MakeFault.TheVariants as fault
use Rattle.node_state.specs.States.{State, retires}

-- the fact's job is not retired, and the fact is made from the held facts
abbrev pub IsMade : List Entry → State → List Bool → Fact → Type 0
IsMade catalog s inlining fact = (retires s (ids_in fact.key) ≡ false) × held.IsMade catalog s.facts inlining fact

-- a key of no job or of no tile has that fault first, then that of a retired job; all other faults are those of the held facts
abbrev pub IsMakeFault : List Entry → State → List Bool → Key → MakeFault → Type 0
IsMakeFault catalog s inlining key fault.Foreign = held.IsMakeFault catalog s.facts inlining key fault.Foreign
IsMakeFault catalog s inlining key fault.NoSuchTile = held.IsMakeFault catalog s.facts inlining key fault.NoSuchTile
IsMakeFault catalog s inlining key fault.Retired =
    HasJob catalog key (λ job. HasTileAt job key.stage key.row key.col) × (retires s (ids_in key) ≡ true)
IsMakeFault catalog s inlining key other = (retires s (ids_in key) ≡ false) × held.IsMakeFault catalog s.facts inlining key other
