-- What is lent of a state of true facts.
use Rattle.std.proofs.Common.{ap, arith, refl, subst, sym, ◌∙◌}
use Rattle.std.specs.List.{Contains}
use Rattle.std.specs.Prelude.{◌≡◌, true, List, [], ◌∷◌}
use Rattle.catalog.specs.Entries.{Entry, IsCatalog}
use Rattle.fact_audit.proofs.Judging.{one_true}
use Rattle.fact_store.proofs.KeyLaws.{in_facts, in_facts_of}
use Rattle.fact_store.proofs.SetLaws.{facts_rise}
use Rattle.identity.specs.declared.key.Key.{Key}
use Rattle.fact_store.specs.Facts.{FactSet}
use Rattle.held_facts.proofs.LentLaws.{in_lent}
use Rattle.held_facts.specs.Answers.{AreHeld}
use Rattle.held_facts.specs.Facts.{facts_in, facts_of, holds, lent}
use Rattle.held_facts.specs.HeldFacts.{HoldsTrueFacts}
use Rattle.node_state.specs.States.{State}
use Rattle.tile_fact.specs.declared.fact.Fact.{Fact}
use Rattle.live_nodes.specs.Histories.{Node, replay}
use Rattle.live_nodes.specs.Loans.{AreTrueFactsOf}
use Rattle.live_nodes.specs.declared.event.Event.{Event}

first_of : (fs : List Fact) → ¬ (fs ≡ []) → (f : Fact) × Contains fs f
first_of [] some = absurd (some refl)
first_of (f ∷ fs) some = (f, (0, omega arith, refl))

module _ (catalog : List Entry) (s : FactSet) (keys : List Key) where
  in_loan : (f : Fact) → Contains (facts_in (lent s keys)) f → (holds s f ≡ true) × Contains keys f.key
  in_loan f among = (in_lent s keys f).0 ((in_facts (lent s keys) f).0 among)

  each_lent : AreHeld s keys → (key : Key) → Contains keys key → (f : Fact) × Contains (facts_in (lent s keys)) f × (f.key ≡ key)
  each_lent held key asked =
      let found = first_of (facts_of s key) (held key asked) in
      let f = found.0 in
      let of_key = (in_facts_of s key f).0 found.1 in
      (f, (in_facts (lent s keys) f).1 ((in_lent s keys f).1 (of_key.0, subst (Contains keys) (sym of_key.1) asked)), of_key.1)

  pub true_loan : IsCatalog catalog → HoldsTrueFacts catalog s → AreHeld s keys → AreTrueFactsOf catalog keys (facts_in (lent s keys))
  true_loan jobs truth held =
      record {
        is_true = λ f among. truth f (in_loan f among).0;
        asked = λ f among. (in_loan f among).1;
        each = each_lent held;
        one = λ f g f_among g_among same. one_true catalog f g jobs (truth f (in_loan f f_among).0) (truth g (in_loan g g_among).0) same;
        rise = facts_rise (lent s keys);
      }

-- what is lent of what a history leaves
pub lent_by_history : (held kept : State) (h : List Event) (keys : List Key) (facts : List Fact)
    → replay h ≡ record { held = held; kept = kept }
    → facts ≡ facts_in (lent held.facts keys) → facts ≡ facts_in (lent (replay h).held.facts keys)
lent_by_history held kept h keys facts stands is = is ∙ ap (λ (n : Node). facts_in (lent n.held.facts keys)) (sym stands)
