-- What accepted makings and deliveries do, and that they are accepted.
use Rattle.std.proofs.Common.{arith, ℕ, suc, ◌<◌, ◌≤◌, ◌≡◌, inl, inr, refl}
use Rattle.std.proofs.Common.{sym, ap, ◌∙◌, subst, true, false, cond, Some, List, [], ◌∷◌, ◌++◌, length}
use Rattle.std.specs.Prelude.{◌≢◌, ◌==◌, slice_get}
use Rattle.std.specs.List.{Any}
use Rattle.std.proofs.lemmas.Bool.{eq-eqb}
use Rattle.std.proofs.lemmas.List.{length_push}
use Rattle.std.proofs.lemmas.Option.{same_Some}
use Rattle.domains.proofs.PairLists.{Contains-cases}
use Rattle.domains.proofs.Places.{slice_get-end}
use Rattle.catalog.specs.Entries.{ids_in}
use Rattle.fact_store.proofs.SetLaws.{with_fact_has}
use Rattle.fact_store.specs.Facts as sets
use Rattle.identity.specs.declared.key.Key.{Key}
use Rattle.held_facts.specs.Answers.{IsNotHeld}
use Rattle.held_facts.specs.declared.make_fault.MakeFault.{MakeFault}
use Rattle.held_facts.specs.declared.make_fault.MakeFault.TheVariants as makes
use Rattle.states.proofs.IdLaws.{has-no_ids}
use Rattle.states.proofs.JoinLaws.{joined_has, or_none, retires-join}
use Rattle.node_state.specs.States.{State, holds, join, of_fact, retires}
use Rattle.tile_fact.specs.declared.fact.Fact.{Fact}
use Rattle.gossip_events.specs.declared.event.Event.TheVariants.{Make, Deliver}
use Rattle.gossip_core.specs.Histories.{IsRefused}
use Rattle.gossip_core.specs.Networks.{Network, Sent}
use Rattle.gossip_core.specs.Steps.{Accepts, CannotMake, IsStepFault, WorldWork, held, states_at}
use Rattle.gossip_core.specs.declared.fault.StepFault.{StepFault}
use Rattle.gossip_core.specs.declared.fault.StepFault.TheVariants as faults
use Rattle.gossip_core.proofs.FinishLists.{in_none, is_held}
use Rattle.gossip_core.proofs.StateLaws.{found_within, held_set, length-slice_set_nodes}

-- the message that a making of a fact sends
abbrev pub told : ℕ → Fact → Sent
told n fact = record { to = n; state = of_fact fact }

module _ (u : WorldWork) (n : ℕ) (key : Key) (w : Network) where
  none_past : n < length w.nodes → Any (λ m. length w.nodes ≤ m) (n ∷ []) → ⊥
  none_past here past = elim (Contains-cases n [] past.1 (past.0, past.2, past.3)) [
    | inl same ↦ (let low = past.4 in omega arith)
    | inr other ↦ in_none past.1 other
  ]

  pub make_goes : n < length w.nodes → ((fault : MakeFault) → fault ≢ makes.Memory → CannotMake u w n key fault → ⊥)
      → ¬ IsRefused u w (Make n key)
  make_goes here none refused = by refused.0 refused.1 refused.2
    where
      by : (fault : StepFault) → fault ≢ faults.Memory → IsStepFault u w (Make n key) fault → ⊥
      by faults.NoSuchNode other is = none_past here is
      by faults.NoSuchMessage other is = is.1 tt
      by faults.WrongAddress other is = is.1
      by (faults.Make fault) other is = none fault is.1.1 is.1.0
      by (faults.NotHeld asked) other is = is.1
      by faults.Memory other is = other refl

  pub delivery_goes : (k : ℕ) (m : Sent) → n < length w.nodes → slice_get w.messages k ≡ Some m → m.to ≡ n → ¬ IsRefused u w (Deliver n k)
  delivery_goes k m here there own refused = by refused.0 refused.1 refused.2
    where
      by : (fault : StepFault) → fault ≢ faults.Memory → IsStepFault u w (Deliver n k) fault → ⊥
      by faults.NoSuchNode other is = none_past here is
      by faults.NoSuchMessage other is = is.1 (found_within w.messages m k there)
      by faults.WrongAddress other is =
          let wrong = is.1 in
          wrong.2 (ap (λ (x : Sent). x.to) (same_Some wrong.0 m (sym wrong.1 ∙ there)) ∙ own)
      by (faults.Make fault) other is = is.1
      by (faults.NotHeld asked) other is = is.1
      by faults.Memory other is = other refl

  -- ---- a making

  -- a fact of the key was sent, whose job the node has not retired
  pub record IsMadeNext (next : Network) : Type 0 where
    pub fact : Fact
    pub own : fact.key ≡ key
    pub live : retires (held w n) (ids_in fact.key) ≡ false
    pub nodes : next.nodes ≡ w.nodes
    pub messages : next.messages ≡ w.messages ++ told n fact ∷ []

  pub made_next : (next : Network) → Accepts u w (Make n key) next → IsMadeNext next
  made_next next ok = record {
    fact = ok.1.0;
    own = ok.1.1.of_key;
    live = ok.1.1.made.0;
    nodes = ap (λ (v : Network). v.nodes) ok.1.2;
    messages = ap (λ (v : Network). v.messages) ok.1.2;
  }

  pub message_there : (next : Network) (made : IsMadeNext next) → slice_get next.messages (length w.messages) ≡ Some (told n made.fact)
  message_there next made =
      ap (λ (ms : List Sent). slice_get ms (length w.messages)) made.messages ∙ slice_get-end w.messages (told n made.fact)

  -- ---- and its delivery

  pub record IsGained (after : Network) : Type 0 where
    pub nodes : length after.nodes ≡ length w.nodes
    pub messages : length after.messages ≡ suc (length w.messages)
    pub live : retires (held after n) (ids_in key) ≡ false
    pub grown : (f : Fact) → ids_in f.key ≡ ids_in key → holds (held w n) f ≡ true → holds (held after n) f ≡ true
    pub has : ¬ IsNotHeld (held after n).facts key

  itself : (s t : State) → cond (n == n) s t ≡ s
  itself s t = ap (λ b. cond b s t) (eq-eqb n n refl)

  -- the fact is joined to what the node held
  joined : (next after : Network) → n < length w.nodes → (made : IsMadeNext next) → Accepts u next (Deliver n (length w.messages)) after
      → held after n ≡ join (held w n) (of_fact made.fact)
  joined next after here made goes =
      let same = same_Some goes.1.0 (told n made.fact) (sym goes.1.1 ∙ message_there next made) in
      let nodes : length next.nodes ≡ length w.nodes = ap length made.nodes in
      ap (λ (v : Network). held v n) goes.1.3
      ∙ held_set next n (join (held next n) goes.1.0.state) n (omega arith)
      ∙ itself (join (held next n) goes.1.0.state) (held next n)
      ∙ ap (λ (x : Sent). join (held next n) x.state) same
      ∙ ap (λ ns. join (states_at ns n).held (of_fact made.fact)) made.nodes

  pub gained : (next after : Network) → n < length w.nodes → Accepts u w (Make n key) next
      → Accepts u next (Deliver n (length w.messages)) after → IsGained after
  gained next after here ok goes =
      let made = made_next next ok in
      let new = of_fact made.fact in
      let state = joined next after here made goes in
      let live : retires (held w n) (ids_in key) ≡ false = ap (λ k. retires (held w n) (ids_in k)) (sym made.own) ∙ made.live in
      let has =
      joined_has (held w n) new made.fact (inr (with_fact_has sets.nothing made.fact made.fact (inl refl))) made.live
      (has-no_ids (ids_in made.fact.key)) in
      record {
        nodes = ap (λ (v : Network). length v.nodes) goes.1.3 ∙ length-slice_set_nodes next.nodes n _ ∙ ap length made.nodes;
        messages =
            ap (λ (v : Network). length v.messages) goes.1.3 ∙ ap length made.messages
            ∙ length_push w.messages (told n made.fact) ∙ omega arith;
        live =
            ap (λ s. retires s (ids_in key)) state
            ∙ retires-join (held w n) new (ids_in key) ∙ or_none _ _ live (has-no_ids (ids_in key));
        grown = λ f of h. subst (λ (s : State). holds s f ≡ true) (sym state)
            (joined_has (held w n) new f (inl h) (ap (retires (held w n)) of ∙ live) (has-no_ids (ids_in f.key)));
        has = is_held (held after n).facts key made.fact (subst (λ (x : State). holds x made.fact ≡ true) (sym state) has) made.own;
      }
