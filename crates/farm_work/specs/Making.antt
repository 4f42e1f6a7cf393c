-- Why a worker makes no fact of a tile from those that it was lent.
use Rattle.std.specs.Prelude.{◌≢◌, Bool, List, fold}
use Rattle.catalog.specs.Entries.{Entry}
use Rattle.fact_store.specs.Facts.{nothing, with_fact}
use Rattle.held_facts.specs.Making.{IsMakeFault}
use Rattle.held_facts.specs.declared.make_fault.MakeFault.{MakeFault}
use Rattle.held_facts.specs.declared.make_fault.MakeFault.TheVariants.{Memory}
use Rattle.identity.specs.declared.key.Key.{Key}
use Rattle.tile_fact.specs.declared.fact.Fact.{Fact}

-- from these facts alone it is not made, and not because memory is refused
pub record IsNotMade (catalog : List Entry) (facts : List Fact) (inlining : List Bool) (key : Key) : Type 0 where
  pub fault : MakeFault
  pub reason : IsMakeFault catalog (fold with_fact nothing facts) inlining key fault
  pub other : fault ≢ Memory
