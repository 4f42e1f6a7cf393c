-- Which updates are true of the jobs of a catalog.
use Rattle.std.specs.Prelude.{List, All}
use Rattle.catalog.specs.Entries.{Entry}
use Rattle.fact_audit.specs.TrueFacts.{IsTrueFact}
use Rattle.tile_fact.specs.declared.update.Update.{Update}
use Rattle.tile_fact.specs.declared.update.Update.TheVariants.{Fact as fact, Retire as retirement}

-- a fact is to be true, and a job may always be retired
abbrev pub IsTrueUpdate : List Entry → Update → Type 0
IsTrueUpdate catalog (fact f) = IsTrueFact catalog f
IsTrueUpdate catalog (retirement i) = Unit {0}

-- each of them is true
abbrev pub AreTrue : List Entry → List Update → Type 0
AreTrue catalog us = All (IsTrueUpdate catalog) us
