-- The stages that the facts so far name are there.
use Rattle.std.proofs.Common.{ℕ, ◌<◌, ◌≡◌, Some, Contains, slice_get}
use Rattle.catalog.specs.Entries.{ids_in}
use Rattle.tile_fact.specs.declared.fact.Fact.{Fact}
use Rattle.fact_audit.proofs.several.list_audited_stage_numbers.Given as goal

abbrev pub invariant-loop-fact : goal.invariant-loop-fact
invariant-loop-fact l =
    (k : ℕ) (fact : Fact) → k < l.fact-index → slice_get l.facts k ≡ Some fact → l.ids ≡ ids_in fact.key
    → Contains l.stages.items fact.key.stage
