-- States of updates, and which of them are true.
use Rattle.std.proofs.Common.{ap, sym, ◌∙◌, subst, refl, inl, inr}
use Rattle.std.proofs.lemmas.List.Elements.{All-head, All-tail}
use Rattle.std.specs.Prelude.{◌≡◌, List, [], ◌∷◌, ◌++◌}
use Rattle.catalog.specs.Entries.{Entry}
use Rattle.fact_audit.specs.TrueFacts.{IsTrueFact}
use Rattle.fact_store.proofs.SetLaws.{holds-nothing, in_with_fact}
use Rattle.held_facts.specs.HeldFacts.{HoldsTrueFacts}
use Rattle.node_state.specs.States.{State, IsState, nothing, join, of_fact, of_retirement}
use Rattle.states.proofs.JoinLaws.{join_assoc, join_is_state, join_nothing, joined_parts}
use Rattle.tile_fact.specs.declared.fact.Fact.{Fact}
use Rattle.tile_fact.specs.declared.update.Update.{Update}
use Rattle.tile_fact.specs.declared.update.Update.TheVariants.{Fact as fact, Retire as retirement}
use Rattle.updates.specs.TrueUpdates.{AreTrue, IsTrueUpdate}
use Rattle.live_nodes.specs.Updates.{state_of, with_update, with_updates}

pub with_updates-push : (s : State) (us : List Update) (u : Update) → with_updates s (us ++ u ∷ []) ≡ with_update (with_updates s us) u
with_updates-push s [] u = refl
with_updates-push s (x ∷ us) u = with_updates-push (with_update s x) us u

pub with_updates-append : (s : State) (us vs : List Update) → with_updates s (us ++ vs) ≡ with_updates (with_updates s us) vs
with_updates-append s [] vs = refl
with_updates-append s (u ∷ us) vs = with_updates-append (with_update s u) us vs

join_with_update : (s t : State) (u : Update) → join s (with_update t u) ≡ with_update (join s t) u
join_with_update s t (fact f) = sym (join_assoc s t (of_fact f))
join_with_update s t (retirement i) = sym (join_assoc s t (of_retirement i))

join_with_updates : (s t : State) (us : List Update) → join s (with_updates t us) ≡ with_updates (join s t) us
join_with_updates s t [] = refl
join_with_updates s t (u ∷ us) = join_with_updates s (with_update t u) us ∙ ap (λ x. with_updates x us) (join_with_update s t u)

pub nothing_is_state : IsState nothing
nothing_is_state f has = let none = holds-nothing f in cc

with_updates_is_state : (s : State) (us : List Update) → IsState s → IsState (with_updates s us)
with_updates_is_state s [] is = is
with_updates_is_state s (fact f ∷ us) is = with_updates_is_state (with_update s (fact f)) us (join_is_state s (of_fact f))
with_updates_is_state s (retirement i ∷ us) is = with_updates_is_state (with_update s (retirement i)) us (join_is_state s (of_retirement i))

pub state_of-append : (us vs : List Update) → join (state_of us) (state_of vs) ≡ state_of (us ++ vs)
state_of-append us vs =
    join_with_updates (state_of us) nothing vs
    ∙ ap (λ s. with_updates s vs) (join_nothing (state_of us) (with_updates_is_state nothing us nothing_is_state))
    ∙ sym (with_updates-append nothing us vs)

module _ (catalog : List Entry) where
  pub true_nothing : HoldsTrueFacts catalog nothing.facts
  true_nothing f has = let none = holds-nothing f in cc

  pub true_join : (s t : State) → HoldsTrueFacts catalog s.facts → HoldsTrueFacts catalog t.facts → HoldsTrueFacts catalog (join s t).facts
  true_join s t first second f has = elim (joined_parts s t f has).0 [ inl here ↦ first f here | inr there ↦ second f there ]

  true_fact : (f : Fact) → IsTrueFact catalog f → HoldsTrueFacts catalog (of_fact f).facts
  true_fact f is g has =
      elim (in_with_fact nothing.facts f g has) [ inl same ↦ subst (IsTrueFact catalog) (sym same) is | inr old ↦ true_nothing g old ]

  true_more : (s : State) (u : Update) → HoldsTrueFacts catalog s.facts → IsTrueUpdate catalog u
      → HoldsTrueFacts catalog (with_update s u).facts
  true_more s (fact f) before is = true_join s (of_fact f) before (true_fact f is)
  true_more s (retirement i) before is = true_join s (of_retirement i) before true_nothing

  true_with : (s : State) (us : List Update) → HoldsTrueFacts catalog s.facts → AreTrue catalog us
      → HoldsTrueFacts catalog (with_updates s us).facts
  true_with s [] before are = before
  true_with s (u ∷ us) before are =
      true_with (with_update s u) us (true_more s u before (All-head (IsTrueUpdate catalog) u us are))
      (All-tail (IsTrueUpdate catalog) u us are)

  pub true_state_of : (us : List Update) → AreTrue catalog us → HoldsTrueFacts catalog (state_of us).facts
  true_state_of us are = true_with nothing us true_nothing are
