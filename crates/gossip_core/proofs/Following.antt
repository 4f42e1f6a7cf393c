-- Whatever events lead to a world, its nodes hold what they took.
use Rattle.std.proofs.Common.{ap, sym, ◌∙◌, subst, inl, inr}
use Rattle.std.proofs.lemmas.Bool.{eq-eqb, eqb-true, eqb-false, true≢false}
use Rattle.std.proofs.lemmas.List.{length_push}
use Rattle.std.proofs.lemmas.List.Elements.{All-head}
use Rattle.std.specs.List.{All}
use Rattle.std.specs.Prelude.{◌≡◌, ◌≢◌, ℕ, ◌+◌, ◌<◌, ◌==◌, ◌↔◌, ◌⊎◌, Bool, true, false, cond, if◌then◌else◌, List, [], ◌∷◌, ◌++◌}
use Rattle.std.specs.Prelude.{Some, length, refl, slice_get}
use Rattle.fact_store.proofs.SetLaws as sets
use Rattle.tile_fact.specs.declared.update.Update.{Update}
use Rattle.tile_fact.specs.declared.update.Update.TheVariants.{Fact as fact, Retire as retirement}
use Rattle.states.specs.Updates.{IsLeftBy, Shows}
use Rattle.states.proofs.IdLaws.{has-no_ids}
use Rattle.states.proofs.LeaveLaws.{IsFrom, from_left, left_alike, left_join, left_same}
use Rattle.identity.specs.Keys.{ids_in}
use Rattle.node_state.specs.States.{IsState, State, join, nothing, retires}
use Rattle.gossip_events.specs.declared.event.Event.{Event}
use Rattle.gossip_events.specs.declared.event.Event.TheVariants.{Make, Retire, Send, Deliver, Merge, Keep, Restart}
use Rattle.gossip_core.specs.Histories.{Leads, start}
use Rattle.gossip_core.specs.Networks.{Network, NodeStates, Sent}
use Rattle.gossip_core.specs.Steps.{Accepts, WorldWork, held, kept, with_held, with_kept, with_message}
use Rattle.gossip_core.specs.Taking.{HasTaken, IsTaken, IsTakenAtKeep, Came, CameAtKeep, By_delivery, By_merge, By_keep}
use Rattle.gossip_core.proofs.StateLaws.{state_found, found_within, held_keep, held_set, kept_keep, kept_set, states_start}
use Rattle.gossip_core.proofs.TakingLaws.{AreSent, Gives, all_sent_more, gives_came, grown, kept_grown, kept_here, kept_later}
use Rattle.gossip_core.proofs.TakingLaws.{kept_newly, kept_ungrown, came_later, came_newly, ungrown}

-- each node holds what it took, and keeps what it had taken at its last keep; and what came was sent
pub record Follows (h : List Event) (w : Network) : Type 0 where
  pub holds : (n : ℕ) → IsTaken w.messages h n (held w n)
  pub keeps : (n : ℕ) → IsTakenAtKeep w.messages h n (kept w n)
  pub sent : AreSent (length w.messages) h

none_came : (ms : List Sent) (u : Update) (h : List Event) (n : ℕ) → h ≡ [] → Came ms u h n → ⊥
none_came ms u _ _ none (By_delivery h [] before n k parts later_none says) = cc
none_came ms u _ _ none (By_delivery h (x ∷ later) before n k parts later_none says) = cc
none_came ms u _ _ none (By_merge h [] before n b parts later_none came) = cc
none_came ms u _ _ none (By_merge h (x ∷ later) before n b parts later_none came) = cc
none_came ms u _ _ none (By_keep h [] between before n parts later_none last came) = cc
none_came ms u _ _ none (By_keep h (x ∷ later) between before n parts later_none last came) = cc

none_kept : (between before : List Event) (n : ℕ) → ◌≡◌ {A = List Event} [] (between ++ Keep n ∷ before) → ⊥
none_kept [] before n parts = cc
none_kept (x ∷ between) before n parts = cc

shows_nothing : (u : Update) → Shows nothing u → ⊥
shows_nothing (fact f) h = true≢false (sym h ∙ sets.holds-nothing f)
shows_nothing (retirement i) h = true≢false (sym h ∙ has-no_ids i)

left_nothing : (P : Update → Type 0) → ((u : Update) → P u → ⊥) → IsLeftBy P nothing
left_nothing P none (fact f) = (λ h. absurd (shows_nothing (fact f) h), λ h. absurd (none (fact f) h.0))
left_nothing P none (retirement i) = (λ h. absurd (shows_nothing (retirement i) h), λ h. absurd (none (retirement i) h))

pub follows_start : (size : ℕ) → Follows [] (start size)
follows_start size =
    record {
      holds = λ n. subst (λ (q : NodeStates). IsTaken [] [] n q.held) (sym (states_start size n))
          (left_nothing (λ u. Came [] u [] n) (λ u came. none_came [] u [] n refl came));
      keeps = λ n. subst (λ (q : NodeStates). IsTakenAtKeep [] [] n q.kept) (sym (states_start size n))
          (left_nothing (λ u. CameAtKeep [] u [] n) (λ u t. none_kept t.between t.before n t.parts));
      sent = tt;
    }

-- ---- what an event leaves as it was

-- an event that gives the node nothing
pub taken_later : (ms : List Sent) (e : Event) (h : List Event) (n : ℕ) (s : State) → e ≢ Restart n
    → ((u : Update) → Gives ms u e h n → ⊥) → IsTaken ms h n s → IsTaken ms (e ∷ h) n s
taken_later ms e h n s other nothing_new is =
    left_same (λ u. Came ms u h n) (λ u. Came ms u (e ∷ h) n) s is
    (λ u. (
      came_later ms u e h n other,
      λ came. elim (came_newly ms u e h n came) [ inl gives ↦ absurd (nothing_new u gives) | inr old ↦ old.1 ],
    ))

pub kept_as_before : (ms : List Sent) (e : Event) (h : List Event) (n : ℕ) (s : State) → e ≢ Keep n → IsTakenAtKeep ms h n s
    → IsTakenAtKeep ms (e ∷ h) n s
kept_as_before ms e h n s other is =
    left_same (λ u. CameAtKeep ms u h n) (λ u. CameAtKeep ms u (e ∷ h) n) s is
    (λ u. (
      kept_later ms u e h n other,
      λ t. elim (kept_newly ms u e h n t) [ inl same ↦ absurd (other same.0) | inr old ↦ old.1 ],
    ))

pub taken_grown : (ms : List Sent) (m : Sent) (h : List Event) (n : ℕ) (s : State) → AreSent (length ms) h → IsTaken ms h n s
    → IsTaken (ms ++ m ∷ []) h n s
taken_grown ms m h n s are is =
    left_same (λ u. Came ms u h n) (λ u. Came (ms ++ m ∷ []) u h n) s is (λ u. (grown ms m u h n are, ungrown ms m u h n are))

kept_is_grown : (ms : List Sent) (m : Sent) (h : List Event) (n : ℕ) (s : State) → AreSent (length ms) h → IsTakenAtKeep ms h n s
    → IsTakenAtKeep (ms ++ m ∷ []) h n s
kept_is_grown ms m h n s are is =
    left_same (λ u. CameAtKeep ms u h n) (λ u. CameAtKeep (ms ++ m ∷ []) u h n) s is
    (λ u. (kept_grown ms m u h n are, kept_ungrown ms m u h n are))

-- ---- what it gives

-- of two states the one that a comparison of numbers picks
picked : (P : State → Type 0) (a n : ℕ) (s t : State) → (a ≡ n → P s) → (a ≢ n → P t) → P (if a == n then s else t)
picked P a n s t here there =
    elim (a == n) as (λ b. (a == n) ≡ b → P (cond b s t)) [
      | true ↦ λ e. here (eqb-true a n e)
      | false ↦ λ e. there (eqb-false a n e)
    ] refl

joined : (ms : List Sent) (e : Event) (h : List Event) (n : ℕ) (s t : State) → e ≢ Restart n → IsTaken ms h n s
    → IsFrom (λ u. Gives ms u e h n) t → IsTaken ms (e ∷ h) n (join s t)
joined ms e h n s t other is from =
    left_same (λ u. Came ms u h n ⊎ Gives ms u e h n) (λ u. Came ms u (e ∷ h) n) (join s t)
    (left_join (λ u. Came ms u h n) (λ u. Gives ms u e h n) s t is from)
    (λ u. (
      (λ some. elim some [ inl old ↦ came_later ms u e h n other old | inr new ↦ gives_came ms u e h n new ]),
      λ came. elim (came_newly ms u e h n came) [ inl new ↦ inr new | inr old ↦ inl old.1 ],
    ))

pub follows_message : (h : List Event) (w : Network) (e : Event) (to : ℕ) (s : State) → ((n : ℕ) → e ≢ Restart n) → ((n : ℕ) → e ≢ Keep n)
    → ((ms : List Sent) (u : Update) (n : ℕ) → Gives ms u e h n → ⊥) → AreSent (length w.messages + 1) (e ∷ h) → Follows h w
    → Follows (e ∷ h) (with_message w to s)
follows_message h w e to s no_restart no_keep no_gift sent is =
    let m : Sent = record { to = to; state = s } in
    record {
      holds = λ n. taken_later (w.messages ++ m ∷ []) e h n (held w n) (no_restart n) (λ u. no_gift (w.messages ++ m ∷ []) u n)
          (taken_grown w.messages m h n (held w n) is.sent (is.holds n));
      keeps = λ n. kept_as_before (w.messages ++ m ∷ []) e h n (kept w n) (no_keep n)
          (kept_is_grown w.messages m h n (kept w n) is.sent (is.keeps n));
      sent = subst (λ count. AreSent count (e ∷ h)) (sym (length_push w.messages m)) sent;
    }

follows_held : (h : List Event) (w : Network) (e : Event) (a : ℕ) (s : State) → a < length w.nodes → ((n : ℕ) → e ≢ Keep n)
    → (a ≡ a → IsTaken w.messages (e ∷ h) a s) → ((n : ℕ) → a ≢ n → IsTaken w.messages (e ∷ h) n (held w n))
    → AreSent (length w.messages) (e ∷ h)
    → Follows h w → Follows (e ∷ h) (with_held w a s)
follows_held h w e a s within no_keep here there sent is =
    record {
      holds = λ n. subst (IsTaken w.messages (e ∷ h) n) (sym (held_set w a s n within))
          (picked (IsTaken w.messages (e ∷ h) n) a n s (held w n)
          (λ same. subst (λ i. IsTaken w.messages (e ∷ h) i s) same (here refl)) (there n));
      keeps = λ n. subst (IsTakenAtKeep w.messages (e ∷ h) n) (sym (kept_set w a s n within))
          (kept_as_before w.messages e h n (kept w n) (no_keep n) (is.keeps n));
      sent = sent;
    }

-- ---- each event

same_restart : (a n : ℕ) → Restart a ≡ Restart n → a ≡ n
same_restart a n e = cc

same_keep : (a n : ℕ) → Keep a ≡ Keep n → a ≡ n
same_keep a n e = cc

-- a message is from what it says
message_gives : (ms : List Sent) (h : List Event) (a k : ℕ) (m : Sent) → slice_get ms k ≡ Some m
    → IsFrom (λ u. Gives ms u (Deliver a k) h a) m.state
message_gives ms h a k m there = record {
  only = λ u says. (refl, subst (λ s. Shows s u) (sym (state_found ms m k there)) says);
  each = λ u gives. inl (subst (λ s. Shows s u) (state_found ms m k there) gives.1);
}

merge_gives : (ms : List Sent) (h : List Event) (a b : ℕ) (t : State) → IsTaken ms h b t → IsFrom (λ u. Gives ms u (Merge a b) h a) t
merge_gives ms h a b t is =
    let from = from_left (λ u. Came ms u h b) t is in
    record { only = λ u says. (refl, from.only u says); each = λ u gives. from.each u gives.1 }

follows_deliver : (h : List Event) (w : Network) (a k : ℕ) (m : Sent) → a < length w.nodes → slice_get w.messages k ≡ Some m → Follows h w
    → Follows (Deliver a k ∷ h) (with_held w a (join (held w a) m.state))
follows_deliver h w a k m within there is =
    follows_held h w (Deliver a k) a (join (held w a) m.state) within (λ n e. cc)
    (λ same. joined w.messages (Deliver a k) h a (held w a) m.state (λ e. cc) (is.holds a) (message_gives w.messages h a k m there))
    (λ n other. taken_later w.messages (Deliver a k) h n (held w n) (λ e. cc) (λ u gives. other gives.0) (is.holds n))
    (found_within w.messages m k there, is.sent) is

follows_merge : (h : List Event) (w : Network) (a b : ℕ) → a < length w.nodes → Follows h w
    → Follows (Merge a b ∷ h) (with_held w a (join (held w a) (held w b)))
follows_merge h w a b within is =
    follows_held h w (Merge a b) a (join (held w a) (held w b)) within (λ n e. cc)
    (λ same. joined w.messages (Merge a b) h a (held w a) (held w b) (λ e. cc) (is.holds a)
    (merge_gives w.messages h a b (held w b) (is.holds b)))
    (λ n other. taken_later w.messages (Merge a b) h n (held w n) (λ e. cc) (λ u gives. other gives.0) (is.holds n))
    (tt, is.sent) is

follows_restart : (h : List Event) (w : Network) (a : ℕ) → a < length w.nodes → Follows h w
    → Follows (Restart a ∷ h) (with_held w a (kept w a))
follows_restart h w a within is =
    follows_held h w (Restart a) a (kept w a) within (λ n e. cc)
    (λ same. left_same (λ u. CameAtKeep w.messages u h a) (λ u. Came w.messages u (Restart a ∷ h) a) (kept w a) (is.keeps a)
    (λ u. (
      (λ t. gives_came w.messages u (Restart a) h a (refl, t)),
      λ came. elim (came_newly w.messages u (Restart a) h a came) [ inl gives ↦ gives.1 | inr old ↦ absurd (old.0 refl) ],
    )))
    (λ n other. taken_later w.messages (Restart a) h n (held w n) (λ e. other (same_restart a n e)) (λ u gives. other gives.0) (is.holds n))
    (tt, is.sent) is

follows_keep : (h : List Event) (w : Network) (a : ℕ) → a < length w.nodes → Follows h w → Follows (Keep a ∷ h) (with_kept w a (held w a))
follows_keep h w a within is =
    record {
      holds = λ n. subst (IsTaken w.messages (Keep a ∷ h) n) (sym (held_keep w a (held w a) n within))
          (taken_later w.messages (Keep a) h n (held w n) (λ e. cc) (λ u gives. gives) (is.holds n));
      keeps = λ n. subst (IsTakenAtKeep w.messages (Keep a ∷ h) n) (sym (kept_keep w a (held w a) n within))
          (picked (IsTakenAtKeep w.messages (Keep a ∷ h) n) a n (held w a) (kept w n)
          (λ same. subst (λ i. IsTakenAtKeep w.messages (Keep a ∷ h) i (held w a)) same (here (held w a) (is.holds a)))
          (λ other. kept_as_before w.messages (Keep a) h n (kept w n) (λ e. other (same_keep a n e)) (is.keeps n)));
      sent = (tt, is.sent);
    }
  where
    here : (s : State) → IsTaken w.messages h a s → IsTakenAtKeep w.messages (Keep a ∷ h) a s
    here s taken =
        left_same (λ u. Came w.messages u h a) (λ u. CameAtKeep w.messages u (Keep a ∷ h) a) s taken
        (λ u. (
          kept_here w.messages u h a,
          λ t. elim (kept_newly w.messages u (Keep a) h a t) [ inl new ↦ new.1 | inr old ↦ absurd (old.0 refl) ],
        ))

-- the first of the nodes that an event names
pub within_first : (w : Network) (a : ℕ) (more : List ℕ) → All (λ n. n < length w.nodes) (a ∷ more) → a < length w.nodes
within_first w a more all = All-head (λ n. n < length w.nodes) a more all

pub follows_step : (u : WorldWork) (h : List Event) (w new : Network) (e : Event) → Follows h w → Accepts u w e new → Follows (e ∷ h) new
follows_step u h w new (Make a key) is ok =
    subst (Follows (Make a key ∷ h)) (sym ok.1.2)
    (follows_message h w (Make a key) a _ (λ n e. cc) (λ n e. cc) (λ ms u n gives. gives)
    (tt, all_sent_more (length w.messages) h is.sent) is)
follows_step u h w new (Retire a ids) is ok =
    subst (Follows (Retire a ids ∷ h)) (sym ok.1)
    (follows_message h w (Retire a ids) a _ (λ n e. cc) (λ n e. cc) (λ ms u n gives. gives)
    (tt, all_sent_more (length w.messages) h is.sent) is)
follows_step u h w new (Send a m keys) is ok =
    subst (Follows (Send a m keys ∷ h)) (sym ok.1.1)
    (follows_message h w (Send a m keys) m _ (λ n e. cc) (λ n e. cc) (λ ms u n gives. gives)
    (tt, all_sent_more (length w.messages) h is.sent) is)
follows_step u h w new (Deliver a k) is ok =
    subst (Follows (Deliver a k ∷ h)) (sym ok.1.3) (follows_deliver h w a k ok.1.0 (within_first w a [] ok.0) ok.1.1 is)
follows_step u h w new (Merge a b) is ok = subst (Follows (Merge a b ∷ h)) (sym ok.1)
    (follows_merge h w a b (within_first w a (b ∷ []) ok.0) is)
follows_step u h w new (Keep a) is ok = subst (Follows (Keep a ∷ h)) (sym ok.1) (follows_keep h w a (within_first w a [] ok.0) is)
follows_step u h w new (Restart a) is ok = subst (Follows (Restart a ∷ h)) (sym ok.1) (follows_restart h w a (within_first w a [] ok.0) is)

pub leads_follows : (u : WorldWork) (size : ℕ) (h accepted : List Event) (w : Network) → Leads u size h accepted w → Follows accepted w
leads_follows u size [] accepted w leads =
    subst (λ (es : List Event). Follows es w) (sym leads.0) (subst (Follows []) (sym leads.1) (follows_start size))
leads_follows u size (e ∷ h) accepted w (old, earlier, before, inl goes) =
    subst (λ (es : List Event). Follows es w) (sym goes.1)
    (follows_step u earlier old w e (leads_follows u size h earlier old before) goes.0)
leads_follows u size (e ∷ h) accepted w (old, earlier, before, inr stays) =
    subst (λ (es : List Event). Follows es w) (sym stays.2)
    (subst (Follows earlier) (sym stays.1) (leads_follows u size h earlier old before))

pub same_takings : (h : List Event) (w : Network) (n m : ℕ) → Follows h w
    → ((u : Update) → HasTaken w.messages h n u ↔ HasTaken w.messages h m u) → held w n ≡ held w m
same_takings h w n m is same =
    left_alike (λ v. Came w.messages v h n) (λ v. Came w.messages v h m) (held w n) (held w m) (is.holds n) (is.holds m) same

-- what updates leave has no fact of a job that one of them retires
left_live : (P : Update → Type 0) (s : State) → IsLeftBy P s → IsState s
left_live P s is f has = by (retires s (ids_in f.key)) refl
  where
    by : (b : Bool) → retires s (ids_in f.key) ≡ b → retires s (ids_in f.key) ≡ false
    by true e = absurd (((is (fact f)).0 has).1 ((is (retirement (ids_in f.key))).0 e))
    by false e = e

-- so a node holds no fact of a job that it has retired, and keeps none
pub held_live : (h : List Event) (w : Network) (n : ℕ) → Follows h w → IsState (held w n)
held_live h w n is = left_live (λ u. Came w.messages u h n) (held w n) (is.holds n)

pub kept_live : (h : List Event) (w : Network) (n : ℕ) → Follows h w → IsState (kept w n)
kept_live h w n is = left_live (λ u. CameAtKeep w.messages u h n) (kept w n) (is.keeps n)

-- ---- merges

itself : (a : ℕ) (s t : State) → (if a == a then s else t) ≡ s
itself a s t = ap (λ b. cond b s t) (eq-eqb a a refl)

apart : (a n : ℕ) (s t : State) → ¬ (a ≡ n) → (if a == n then s else t) ≡ t
apart a n s t differ = picked (λ x. x ≡ t) a n s t (λ same. absurd (differ same)) (λ other. refl)

pub merged_held : (u : WorldWork) (w new : Network) (a b : ℕ) → Accepts u w (Merge a b) new → held new a ≡ join (held w a) (held w b)
merged_held u w new a b ok =
    ap (λ (v : Network). held v a) ok.1
    ∙ held_set w a (join (held w a) (held w b)) a (within_first w a (b ∷ []) ok.0)
    ∙ itself a (join (held w a) (held w b)) (held w a)

pub others_held : (u : WorldWork) (w new : Network) (a b n : ℕ) → Accepts u w (Merge a b) new → ¬ (a ≡ n) → held new n ≡ held w n
others_held u w new a b n ok differ =
    ap (λ (v : Network). held v n) ok.1
    ∙ held_set w a (join (held w a) (held w b)) n (within_first w a (b ∷ []) ok.0)
    ∙ apart a n (join (held w a) (held w b)) (held w n) differ
