-- What a node took is the join of its parts, and so is what it had taken at its last keep.
use Rattle.std.proofs.Common.{ap, sym, ◌∙◌, subst, inl, inr}
use Rattle.std.proofs.lemmas.Bool.{true≢false}
use Rattle.std.proofs.lemmas.List.{append_assoc}
use Rattle.std.specs.Prelude.{◌≡◌, ◌⊎◌, ℕ, Bool, true, false, List, [], ◌∷◌, ◌++◌, length, refl}
use Rattle.fact_store.proofs.SetLaws as sets
use Rattle.identity.specs.Keys.{ids_in}
use Rattle.tile_fact.specs.declared.update.Update.{Update}
use Rattle.tile_fact.specs.declared.update.Update.TheVariants.{Fact as fact, Retire as retirement}
use Rattle.states.proofs.IdLaws.{has-no_ids}
use Rattle.states.proofs.JoinLaws.{below_both, clash}
use Rattle.states.proofs.LeaveLaws.{from_left}
use Rattle.states.specs.Updates.{IsLeftBy, Shows}
use Rattle.node_state.specs.States.{IsBelow, IsState, State, holds, nothing, retires}
use Rattle.gossip_events.specs.declared.event.Event.{Event}
use Rattle.gossip_events.specs.declared.event.Event.TheVariants.{Make, Retire, Send, Deliver, Merge, Keep, Restart}
use Rattle.gossip_core.specs.Histories.{Leads}
use Rattle.gossip_core.specs.Networks.{Network, Sent}
use Rattle.gossip_core.specs.Steps.{Accepts, WorldWork, held, kept, state_at}
use Rattle.gossip_core.specs.Taking.{Came, CameAtKeep, By_delivery, By_merge, By_keep, HasNo, IsJoinOf, IsPart, IsPartAtKeep, IsTaken}
use Rattle.gossip_core.proofs.Following.{held_live, kept_live, leads_follows, taken_grown}
use Rattle.gossip_core.proofs.TakingLaws.{AreSent, sent_behind}

-- ---- of each beginning of the events there is a state that is what a node took

-- what was taken is so still when more was sent
taken_still : (u : WorldWork) (w new : Network) (e : Event) (h : List Event) (n : ℕ) (s : State) → Accepts u w e new
    → AreSent (length w.messages) h → IsTaken w.messages h n s → IsTaken new.messages h n s
taken_still u w new (Make a key) h n s ok are is =
    subst (λ (v : Network). IsTaken v.messages h n s) (sym ok.1.2) (taken_grown w.messages _ h n s are is)
taken_still u w new (Retire a ids) h n s ok are is =
    subst (λ (v : Network). IsTaken v.messages h n s) (sym ok.1) (taken_grown w.messages _ h n s are is)
taken_still u w new (Send a m keys) h n s ok are is =
    subst (λ (v : Network). IsTaken v.messages h n s) (sym ok.1.1) (taken_grown w.messages _ h n s are is)
taken_still u w new (Deliver a k) h n s ok are is = subst (λ (v : Network). IsTaken v.messages h n s) (sym ok.1.3) is
taken_still u w new (Merge a b) h n s ok are is = subst (λ (v : Network). IsTaken v.messages h n s) (sym ok.1) is
taken_still u w new (Keep a) h n s ok are is = subst (λ (v : Network). IsTaken v.messages h n s) (sym ok.1) is
taken_still u w new (Restart a) h n s ok are is = subst (λ (v : Network). IsTaken v.messages h n s) (sym ok.1) is

abbrev TakenAt : List Sent → List Event → ℕ → Type 0
TakenAt messages h n = (s : State) × IsTaken messages h n s

taken_here : (u : WorldWork) (size : ℕ) (h accepted before : List Event) (w : Network) → Leads u size h accepted w → (n : ℕ)
    → accepted ≡ before → TakenAt w.messages before n
taken_here u size h accepted before w leads n same =
    (held w n, subst (λ (es : List Event). IsTaken w.messages es n (held w n)) same ((leads_follows u size h accepted w leads).holds n))

none_later : (x : Event) (later before : List Event) → ◌≡◌ {A = List Event} [] (x ∷ (later ++ before)) → ⊥
none_later x later before e = cc

taken_before : (u : WorldWork) (size : ℕ) (h accepted : List Event) (w : Network) → Leads u size h accepted w → (later before : List Event)
    → (n : ℕ) → accepted ≡ later ++ before → TakenAt w.messages before n
taken_before u size [] accepted w leads later before n = by later
  where
    by : (front : List Event) → accepted ≡ front ++ before → TakenAt w.messages before n
    by [] parts = taken_here u size [] accepted before w leads n parts
    by (x ∷ front) parts = absurd (none_later x front before (sym leads.0 ∙ parts))
taken_before u size (e ∷ h) accepted w (old, earlier, leads, inl goes) later before n =
    by (λ front rest. taken_before u size h earlier old leads front before n rest) later
  where
    by : ((front : List Event) → earlier ≡ front ++ before → TakenAt old.messages before n) → (front : List Event)
        → accepted ≡ front ++ before
        → TakenAt w.messages before n
    by further [] parts = taken_here u size (e ∷ h) accepted before w (old, earlier, leads, inl goes) n parts
    by further (x ∷ front) parts =
        let same : (e ∷ earlier) ≡ x ∷ (front ++ before) = sym goes.1 ∙ parts in
        let rest : earlier ≡ front ++ before = cc in
        let one = further front rest in
        let sent = (leads_follows u size h earlier old leads).sent in (
          one.0,
          taken_still u old w e before n one.0 goes.0
              (sent_behind (length old.messages) front before (subst (AreSent (length old.messages)) rest sent)) one.1,
        )
taken_before u size (e ∷ h) accepted w (old, earlier, leads, inr stays) later before n = λ parts.
    let one = taken_before u size h earlier old leads later before n (sym stays.2 ∙ parts) in
    (one.0, subst (λ (v : Network). IsTaken v.messages before n one.0) (sym stays.1) one.1)

-- ---- what a part shows came to the node, and what came is shown by a part

part_came : (ms : List Sent) (h : List Event) (n : ℕ) (p : State) → IsPart ms h n p → (u : Update) → Shows p u → Came ms u h n
part_came ms h n p (inl d) u shows =
    By_delivery h d.later d.before n d.message d.parts d.last (subst (λ (s : State). Shows s u) d.tells shows)
part_came ms h n p (inr (inl m)) u shows =
    By_merge h m.later m.before n m.other m.parts m.last ((from_left (λ v. Came ms v m.before m.other) p m.taken).only u shows)
part_came ms h n p (inr (inr b)) u shows =
    By_keep h b.later b.between b.before n b.parts b.last b.last_keep ((from_left (λ v. Came ms v b.before n) p b.taken).only u shows)

-- the state shows the update, or retires the job of the fact that it tells
abbrev Covers : State → Update → Type 0
Covers s (fact f) = (holds s f ≡ true) ⊎ (retires s (ids_in f.key) ≡ true)
Covers s (retirement i) = retires s i ≡ true

shown_covers : (s : State) (u : Update) → Shows s u → Covers s u
shown_covers s (fact f) shows = inl shows
shown_covers s (retirement i) shows = shows

-- what updates leave covers all of them
left_covers : (P : Update → Type 0) (s : State) → IsLeftBy P s → (u : Update) → P u → Covers s u
left_covers P s is (retirement i) came = (is (retirement i)).1 came
left_covers P s is (fact f) came = by (retires s (ids_in f.key)) refl
  where
    by : (b : Bool) → retires s (ids_in f.key) ≡ b → Covers s (fact f)
    by true e = inr e
    by false e = inl ((is (fact f)).1 (came, λ gone. clash _ ((is (retirement (ids_in f.key))).1 gone) e))

taken_covers : (ms : List Sent) (h : List Event) (n : ℕ) (s : State) → IsTaken ms h n s → (u : Update) → Came ms u h n → Covers s u
taken_covers ms h n s is = left_covers (λ u. Came ms u h n) s is

record IsCovered (ms : List Sent) (h : List Event) (n : ℕ) (u : Update) : Type 0 where
  part : State
  is : IsPart ms h n part
  covers : Covers part u

covered : (ms : List Sent) (u : Update) (h : List Event) (n : ℕ)
    → ((later before : List Event) (m : ℕ) → h ≡ later ++ before → TakenAt ms before m) → Came ms u h n → IsCovered ms h n u
covered ms u _ _ taken (By_delivery h later before n k parts last says) =
    record {
      part = state_at ms k;
      is = inl (record { later = later; before = before; message = k; parts = parts; last = last; tells = refl });
      covers = shown_covers (state_at ms k) u says;
    }
covered ms u _ _ taken (By_merge h later before n other parts last came) =
    let one = taken (later ++ Merge n other ∷ []) before other (parts ∙ sym (append_assoc later (Merge n other ∷ []) before)) in
    record {
      part = one.0;
      is = inr (inl (record { later = later; before = before; other = other; parts = parts; last = last; taken = one.1 }));
      covers = taken_covers ms before other one.0 one.1 u came;
    }
covered ms u _ _ taken (By_keep h later between before n parts last last_keep came) =
    let one = taken (later ++ Restart n ∷ (between ++ Keep n ∷ [])) before n
    (parts ∙ ap (λ (es : List Event). later ++ Restart n ∷ es) (sym (append_assoc between (Keep n ∷ []) before))
    ∙ sym (append_assoc later (Restart n ∷ (between ++ Keep n ∷ [])) before)) in
    record {
      part = one.0;
      is = inr (inr (record {
        later = later;
        between = between;
        before = before;
        parts = parts;
        last = last;
        last_keep = last_keep;
        taken = one.1;
      }));
      covers = taken_covers ms before n one.0 one.1 u came;
    }

-- ---- the join

-- what a state covers, one above it covers
covers_more : (p t : State) → IsBelow p t → (u : Update) → Covers p u → Covers t u
covers_more p t below (retirement i) gone = below.retired i gone
covers_more p t below (fact f) (inl has) = below.facts f has
covers_more p t below (fact f) (inr gone) = inr (below.retired (ids_in f.key) gone)

-- a state is below another that covers all that it shows
below_covers : (p t : State) → ((u : Update) → Shows p u → Covers t u) → IsBelow p t
below_covers p t all = record { retired = λ i has. all (retirement i) has; facts = λ f has. all (fact f) has }

pub join_of_parts : (u : WorldWork) (size : ℕ) (h accepted : List Event) (w : Network) → Leads u size h accepted w → (n : ℕ)
    → IsJoinOf (IsPart w.messages accepted n) (held w n)
join_of_parts u size h accepted w leads n =
    let ms = w.messages in
    let follows = leads_follows u size h accepted w leads in
    let is = follows.holds n in
    record {
      state = held_live accepted w n follows;
      each = λ p part. below_covers p (held w n)
          (λ v shows. taken_covers ms accepted n (held w n) is v (part_came ms accepted n p part v shows));
      least = λ t all. below_covers (held w n) t
          (λ v shows.
          let one = covered ms v accepted n (taken_before u size h accepted w leads)
          ((from_left (λ x. Came ms x accepted n) (held w n) is).only v shows) in
          covers_more one.part t (all one.part one.is) v one.covers);
    }

-- ---- the same at the last keep

part_at_keep_came : (ms : List Sent) (h : List Event) (n : ℕ) (p : State) → IsPartAtKeep ms h n p → (u : Update) → Shows p u
    → CameAtKeep ms u h n
part_at_keep_came ms h n p part u shows =
    record {
      between = part.between;
      before = part.before;
      parts = part.parts;
      last = part.last_keep;
      came = part_came ms part.before n p part.part_then u shows;
    }

record IsCoveredAtKeep (ms : List Sent) (h : List Event) (n : ℕ) (u : Update) : Type 0 where
  part : State
  is : IsPartAtKeep ms h n part
  covers : Covers part u

covered_at_keep : (ms : List Sent) (u : Update) (h : List Event) (n : ℕ)
    → ((later before : List Event) (m : ℕ) → h ≡ later ++ before → TakenAt ms before m) → CameAtKeep ms u h n → IsCoveredAtKeep ms h n u
covered_at_keep ms u h n taken t =
    let one = covered ms u t.before n
    (λ later before m same. taken (t.between ++ Keep n ∷ later) before m
    (t.parts ∙ ap (λ (es : List Event). t.between ++ Keep n ∷ es) same ∙ sym (append_assoc t.between (Keep n ∷ later) before)))
    t.came in
    record {
      part = one.part;
      is = record { between = t.between; before = t.before; parts = t.parts; last_keep = t.last; part_then = one.is };
      covers = one.covers;
    }

pub join_at_keep : (u : WorldWork) (size : ℕ) (h accepted : List Event) (w : Network) → Leads u size h accepted w → (n : ℕ)
    → IsJoinOf (IsPartAtKeep w.messages accepted n) (kept w n)
join_at_keep u size h accepted w leads n =
    let ms = w.messages in
    let follows = leads_follows u size h accepted w leads in
    let is = follows.keeps n in
    record {
      state = kept_live accepted w n follows;
      each = λ p part. below_covers p (kept w n)
          (λ v shows. left_covers (λ x. CameAtKeep ms x accepted n) (kept w n) is v (part_at_keep_came ms accepted n p part v shows));
      least = λ t all. below_covers (kept w n) t
          (λ v shows.
          let one = covered_at_keep ms v accepted n (taken_before u size h accepted w leads)
          ((from_left (λ x. CameAtKeep ms x accepted n) (kept w n) is).only v shows) in
          covers_more one.part t (all one.part one.is) v one.covers);
    }

-- ---- where a node never kept

none_kept : (n : ℕ) (between before h : List Event) → HasNo (Keep n) h → h ≡ between ++ Keep n ∷ before → ⊥
none_kept n [] before [] none parts = cc
none_kept n [] before (e ∷ h) none parts = let is : e ≡ Keep n = cc in none.0 is
none_kept n (x ∷ between) before [] none parts = cc
none_kept n (x ∷ between) before (e ∷ h) none parts =
    let rest : h ≡ between ++ Keep n ∷ before = cc in none_kept n between before h none.1 rest

nothing_below : (s : State) → IsBelow nothing s
nothing_below s = record {
  retired = λ i has. absurd (true≢false (sym has ∙ has-no_ids i));
  facts = λ f has. absurd (true≢false (sym has ∙ sets.holds-nothing f));
}

nothing_live : IsState nothing
nothing_live f has = absurd (true≢false (sym has ∙ sets.holds-nothing f))

pub keeps_nothing : (u : WorldWork) (size : ℕ) (h accepted : List Event) (w : Network) → Leads u size h accepted w → (n : ℕ)
    → HasNo (Keep n) accepted → kept w n ≡ nothing
keeps_nothing u size h accepted w leads n none =
    let is = join_at_keep u size h accepted w leads n in
    below_both (kept w n) nothing is.state nothing_live
    (is.least nothing (λ p part. absurd (none_kept n part.between part.before accepted none part.parts)))
    (nothing_below (kept w n))
