-- Sets of true facts alone.
use Rattle.std.proofs.Common.{ℕ, ◌≡◌, sym, ◌∙◌, subst, inl, inr, Some, List}
use Rattle.std.specs.Prelude.{All, slice_get}
use Rattle.std.proofs.lemmas.Bool.{false≢true}
use Rattle.std.proofs.lemmas.List.Elements.{All-contains}
use Rattle.std.proofs.lemmas.Option.{get_or_from_slice_get, slice_get_within}
use Rattle.catalog.specs.Entries.{Entry}
use Rattle.fact_audit.specs.TrueFacts.{IsTrueFact}
use Rattle.fact_store.proofs.SetLaws.{holds-nothing, in_with_fact}
use Rattle.fact_store.specs.Facts.{FactSet, nothing, with_fact}
use Rattle.held_facts.specs.HeldFacts.{HoldsTrueFacts}
use Rattle.tile_fact.specs.declared.fact.Fact.{Fact}

pub none_true : (catalog : List Entry) → HoldsTrueFacts catalog nothing
none_true catalog f held = absurd (false≢true (sym (holds-nothing f) ∙ held))

pub one_more_true : (catalog : List Entry) (s : FactSet) (fact : Fact) → IsTrueFact catalog fact → HoldsTrueFacts catalog s
    → HoldsTrueFacts catalog (with_fact s fact)
one_more_true catalog s fact right before f held = elim (in_with_fact s fact f held) [
  | inl same ↦ subst (IsTrueFact catalog) (sym same) right
  | inr other ↦ before f other
]

pub true_at : (catalog : List Entry) (facts : List Fact) (i : ℕ) (fact : Fact) → All (IsTrueFact catalog) facts
    → slice_get facts i ≡ Some fact → IsTrueFact catalog fact
true_at catalog facts i fact all there =
    All-contains (IsTrueFact catalog) facts fact all
    (i, slice_get_within facts i fact there, get_or_from_slice_get facts i fact fact there)
