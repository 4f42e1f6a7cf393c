-- A history with one event more.
use Rattle.std.proofs.Common.{ap, arith, sym, ◌∙◌, subst, refl}
use Rattle.std.proofs.lemmas.List.{append_assoc, append-nil, drop_all, drop-append-le, length-append}
use Rattle.std.specs.Prelude.{◌≡◌, ◌≤◌, ◌+◌, ℕ, zero, suc, List, [], ◌∷◌, ◌++◌, drop, length}
use Rattle.catalog.specs.Entries.{Entry, IsCatalog}
use Rattle.identity.specs.declared.key.Key.{Key}
use Rattle.held_facts.specs.Answers.{AreHeld}
use Rattle.held_facts.specs.HeldFacts.{HoldsTrueFacts}
use Rattle.identity.specs.declared.job_ids.JobId.{JobId}
use Rattle.node_state.specs.States.{State, IsState, nothing, join, retired_in}
use Rattle.states.proofs.JoinLaws.{join_assoc, join_is_state, join_nothing}
use Rattle.tile_fact.specs.declared.update.Update.{Update}
use Rattle.updates.specs.TrueUpdates.{AreTrue}
use Rattle.live_nodes.specs.Books.{IsBook, updates_in, updates_of}
use Rattle.live_nodes.specs.Histories.{IsLegalFrom, MayFollow, Node, node_after, new_node, replay_from}
use Rattle.live_nodes.specs.Updates.{state_of, with_updates}
use Rattle.live_nodes.specs.declared.event.Event.{Event}
use Rattle.live_nodes.specs.declared.event.Event.TheVariants.{Lent, Took, Kept, Restarted}
use Rattle.live_nodes.proofs.UpdateLaws.{nothing_is_state, state_of-append, with_updates-append, true_join, true_nothing, true_state_of}

pub replay_from-more : (n : Node) (h : List Event) (e : Event) → replay_from n (h ++ e ∷ []) ≡ node_after (replay_from n h) e
replay_from-more n [] e = refl
replay_from-more n (x ∷ h) e = replay_from-more (node_after n x) h e

pub legal_from_more : (n : Node) (h : List Event) (e : Event) → IsLegalFrom n h → MayFollow (replay_from n h) e
    → IsLegalFrom n (h ++ e ∷ [])
legal_from_more n [] e legal may = (may, tt)
legal_from_more n (x ∷ h) e legal may = (legal.0, legal_from_more (node_after n x) h e legal.1 may)

pub legal_from_less : (n : Node) (h : List Event) (e : Event) → IsLegalFrom n (h ++ e ∷ []) → IsLegalFrom n h
    × MayFollow (replay_from n h) e
legal_from_less n [] e legal = (tt, legal.0)
legal_from_less n (x ∷ h) e legal = let rest = legal_from_less (node_after n x) h e legal.1 in ((legal.0, rest.0), rest.1)

abbrev node : State → State → Node
node held kept = record { held = held; kept = kept }

-- what a history leaves are states
abbrev AreStates : Node → Type 0
AreStates n = IsState n.held × IsState n.kept

states_from : (n : Node) (h : List Event) → AreStates n → AreStates (replay_from n h)
states_from n [] are = are
states_from n (Lent keys retired ∷ h) are = states_from n h are
states_from n (Took us ∷ h) are = states_from (node_after n (Took us)) h (join_is_state n.held (state_of us), are.1)
states_from n (Kept ∷ h) are = states_from (node_after n Kept) h (are.0, are.0)
states_from n (Restarted ∷ h) are = states_from (node_after n Restarted) h (are.1, are.1)

left_states : (n : Node) (h : List Event) → replay_from new_node h ≡ n → AreStates n
left_states n h left = subst AreStates left (states_from new_node h (nothing_is_state, nothing_is_state))

-- what was taken since a number of events
updates_in-append : (xs ys : List Event) → updates_in (xs ++ ys) ≡ updates_in xs ++ updates_in ys
updates_in-append [] ys = refl
updates_in-append (x ∷ xs) ys =
    ap (λ us. updates_of x ++ us) (updates_in-append xs ys) ∙ sym (append_assoc (updates_of x) (updates_in xs) (updates_in ys))

since_more : (since : ℕ) (h : List Event) (e : Event) → since ≤ length h
    → updates_in (drop since (h ++ e ∷ [])) ≡ updates_in (drop since h) ++ updates_of e
since_more since h e within =
    ap updates_in (drop-append-le since h (e ∷ []) within) ∙ updates_in-append (drop since h) (e ∷ [])
    ∙ ap (λ us. updates_in (drop since h) ++ us) (append-nil (updates_of e))

pub state_of_more : (es : List Event) (e : Event) → state_of (updates_in (es ++ e ∷ [])) ≡ with_updates (state_of (updates_in es)) (updates_of e)
state_of_more es e =
    ap state_of (updates_in-append es (e ∷ []) ∙ ap (λ us. updates_in es ++ us) (append-nil (updates_of e)))
    ∙ with_updates-append nothing (updates_in es) (updates_of e)

none_since : (s : State) (next : ℕ) (h : List Event) → IsState s → next ≡ length h → s ≡ join s (state_of (updates_in (drop next h)))
none_since s next h is all =
    sym (ap (λ es. join s (state_of (updates_in es))) (drop_all next h (omega (arith, all))) ∙ join_nothing s is)

one_later : (since : ℕ) (h : List Event) (e : Event) → since ≤ length h → since ≤ length (h ++ e ∷ [])
one_later since h e within = rw (length-append h (e ∷ [])) (omega (arith, within))

module _ (catalog : List Entry) where
  book_start : IsCatalog catalog → IsBook catalog nothing nothing 0 []
  book_start jobs = record {
    jobs = jobs;
    stands = refl;
    legal = tt;
    true_held = true_nothing catalog;
    true_kept = true_nothing catalog;
    within = omega arith;
    recent = none_since nothing 0 [] nothing_is_state refl;
  }

  pub book_new : (held kept : State) (since : ℕ) (h : List Event) → IsCatalog catalog → held ≡ nothing → kept ≡ nothing → since ≡ 0 → h ≡ []
      → IsBook catalog held kept since h
  book_new held kept since h jobs no_held no_kept at none =
      subst (λ (s : State). IsBook catalog s kept since h) (sym no_held)
      (subst (λ (s : State). IsBook catalog nothing s since h) (sym no_kept)
      (subst (λ (n : ℕ). IsBook catalog nothing nothing n h) (sym at)
      (subst (λ (es : List Event). IsBook catalog nothing nothing 0 es) (sym none) (book_start jobs))))

  -- the book after an event that may follow, and leaves true facts
  book_more : (held kept : State) (since next : ℕ) (h : List Event) (e : Event) → IsBook catalog held kept since h → MayFollow (node held kept) e
      → HoldsTrueFacts catalog (node_after (node held kept) e).held.facts → HoldsTrueFacts catalog (node_after (node held kept) e).kept.facts
      → next ≤ length (h ++ e ∷ [])
      → (node_after (node held kept) e).held ≡ join (node_after (node held kept) e).kept (state_of (updates_in (drop next (h ++ e ∷ []))))
      → IsBook catalog (node_after (node held kept) e).held (node_after (node held kept) e).kept next (h ++ e ∷ [])
  book_more held kept since next h e b may true_held true_kept within recent =
      record {
        jobs = b.jobs;
        stands = replay_from-more new_node h e ∙ ap (λ n. node_after n e) b.stands;
        legal = legal_from_more new_node h e b.legal (subst (λ n. MayFollow n e) (sym b.stands) may);
        true_held = true_held;
        true_kept = true_kept;
        within = within;
        recent = recent;
      }

  pub book_lent : (held kept : State) (since : ℕ) (h : List Event) (keys : List Key) (retired : List JobId) → IsBook catalog held kept since h
      → AreHeld held.facts keys → retired ≡ retired_in held → IsBook catalog held kept since (h ++ Lent keys retired ∷ [])
  book_lent held kept since h keys retired b are told =
      book_more held kept since since h (Lent keys retired) b (are, told) b.true_held b.true_kept
      (one_later since h (Lent keys retired) b.within)
      (b.recent ∙ ap (λ us. join kept (state_of us)) (sym (since_more since h (Lent keys retired) b.within ∙ append-nil (updates_in (drop since h)))))

  pub book_took : (held kept : State) (since : ℕ) (h : List Event) (us : List Update) → IsBook catalog held kept since h → AreTrue catalog us
      → IsBook catalog (join held (state_of us)) kept since (h ++ Took us ∷ [])
  book_took held kept since h us b are =
      book_more held kept since since h (Took us) b tt (true_join catalog held (state_of us) b.true_held (true_state_of catalog us are)) b.true_kept
      (one_later since h (Took us) b.within)
      (ap (λ s. join s (state_of us)) b.recent
      ∙ join_assoc kept (state_of (updates_in (drop since h))) (state_of us)
      ∙ ap (λ s. join kept s) (state_of-append (updates_in (drop since h)) us)
      ∙ ap (λ vs. join kept (state_of vs)) (sym (since_more since h (Took us) b.within)))

  pub book_kept : (held kept taken : State) (since next : ℕ) (h : List Event) → IsBook catalog held kept since h
      → taken ≡ state_of (updates_in (drop since h)) → next ≡ length (h ++ Kept ∷ []) → IsBook catalog held (join kept taken) next (h ++ Kept ∷ [])
  book_kept held kept taken since next h b all at =
      subst (λ (s : State). IsBook catalog held s next (h ++ Kept ∷ [])) (b.recent ∙ ap (λ s. join kept s) (sym all))
      (book_more held kept since next h Kept b tt b.true_held b.true_held (omega (arith, at))
      (none_since held next (h ++ Kept ∷ []) (left_states (node held kept) h b.stands).0 at))

  pub book_restarted : (held kept : State) (since next : ℕ) (h : List Event) → IsBook catalog held kept since h
      → next ≡ length (h ++ Restarted ∷ []) → IsBook catalog kept kept next (h ++ Restarted ∷ [])
  book_restarted held kept since next h b at =
      book_more held kept since next h Restarted b tt b.true_kept b.true_kept (omega (arith, at))
      (none_since kept next (h ++ Restarted ∷ []) (left_states (node held kept) h b.stands).1 at)
