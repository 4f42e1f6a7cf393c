use Rattle.std.proofs.Common.{◌≡◌, drop}
use Rattle.std.specs.Prelude.{All, List, fold}
use Rattle.catalog.specs.Entries.{Entry}
use Rattle.fact_audit.specs.TrueFacts.{IsTrueFact}
use Rattle.fact_store.specs.Facts.{nothing, with_fact}
use Rattle.held_facts.specs.HeldFacts.{HoldsTrueFacts}
use Rattle.farm_work.proofs.work.hold_facts_for_farm_work.Given as goal

-- with the facts behind it, what is held so far is what all facts make; and it is true where all facts are
abbrev pub invariant-loop-fact : goal.invariant-loop-fact
invariant-loop-fact l = record {
  made : fold with_fact l.held (drop l.fact-index l.facts) ≡ fold with_fact nothing l.facts;
  truth : (catalog : List Entry) → All (IsTrueFact catalog) l.facts → HoldsTrueFacts catalog l.held;
}
