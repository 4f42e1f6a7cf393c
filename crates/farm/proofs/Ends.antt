-- What the nodes of a farm hold in the end is true, and what is lent is true.
use Rattle.std.proofs.Common.{refl, ◌≡◌, length, inl, inr}
use Rattle.std.proofs.lemmas.List.{length-append}
use Rattle.std.proofs.lemmas.List.Elements.{All-nil, All-cons, All-append, All-head, All-tail, All-weaker, All-contains_itself}
use Rattle.std.specs.Prelude.{List, [], ◌∷◌, ◌++◌, All, Contains, fold}
use Rattle.live_nodes.specs.Histories.{replay}
use Rattle.live_nodes.specs.Loans.{AreTrueFactsOf}
use Rattle.live_nodes.specs.declared.event.Event.{Event}
use Rattle.catalog.specs.Entries.{Entry}
use Rattle.fact_audit.specs.TrueFacts.{IsTrueFact}
use Rattle.farm.specs.Reports.{IsSoundEnd, all_held}
use Rattle.identity.specs.declared.key.Key.{Key}
use Rattle.fact_store.proofs.SetLaws.{holds-nothing, in_join}
use Rattle.fact_store.specs.Facts.{FactSet, nothing, join}
use Rattle.held_facts.proofs.LentLaws.{in_lent}
use Rattle.held_facts.specs.Facts.{lent}
use Rattle.held_facts.specs.HeldFacts.{HoldsTrueFacts}
use Rattle.tile_fact.specs.declared.fact.Fact.{Fact}

module _ (catalog : List Entry) where
  true_nothing : HoldsTrueFacts catalog nothing
  true_nothing f has = let none = holds-nothing f in cc

  true_join : (s t : FactSet) → HoldsTrueFacts catalog s → HoldsTrueFacts catalog t → HoldsTrueFacts catalog (join s t)
  true_join s t first second f has = elim (in_join s t f has) [ inl here ↦ first f here | inr there ↦ second f there ]

  true_from : (s : FactSet) (histories : List (List Event)) → HoldsTrueFacts catalog s → All (IsSoundEnd catalog) histories
      → HoldsTrueFacts catalog (fold (λ s history. join s (replay history).held.facts) s histories)
  true_from s [] before sound = before
  true_from s (h ∷ histories) before sound =
      let one : IsSoundEnd catalog h = All-head (IsSoundEnd catalog) h histories sound in
      true_from (join s (replay h).held.facts) histories (true_join s (replay h).held.facts before one.truth)
      (All-tail (IsSoundEnd catalog) h histories sound)

  -- all that sound ends hold together
  pub true_together : (histories : List (List Event)) → All (IsSoundEnd catalog) histories → HoldsTrueFacts catalog (all_held histories)
  true_together histories sound = true_from nothing histories true_nothing sound

  -- and so is what is gathered of it
  pub true_gathered : (histories : List (List Event)) (keys : List Key) → All (IsSoundEnd catalog) histories
      → HoldsTrueFacts catalog (lent (all_held histories) keys)
  true_gathered histories keys sound f has = true_together histories sound f ((in_lent (all_held histories) keys f).0 has).0

  pub true_loan_all : (keys : List Key) (facts : List Fact) → AreTrueFactsOf catalog keys facts → All (IsTrueFact catalog) facts
  true_loan_all keys facts are =
      All-weaker (Contains facts) (IsTrueFact catalog) are.is_true facts (All-contains_itself facts)

-- a list of ends with one more, beside its nodes with one more
pub one_more : {X N : Type 0} (P : X → Type 0) (xs old new : List X) (ns : List N) (x : X) (n : N)
    → All P xs × (length xs ≡ length ns) → old ≡ xs → new ≡ old ++ x ∷ [] → P x → All P new × (length new ≡ length (ns ++ n ∷ []))
one_more P xs old new ns x n both held grown holds =
    rw (grown, held) (
      All-append P xs (x ∷ []) both.0 (All-cons P x [] holds (All-nil P)),
      rw (length-append xs (x ∷ []), length-append ns (n ∷ []), both.1) refl,
    )
