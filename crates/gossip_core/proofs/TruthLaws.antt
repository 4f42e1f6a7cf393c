-- Events that are accepted leave true what was true, and make nothing false.
use Rattle.std.proofs.Common.{sym, ◌∙◌, subst, inl, inr}
use Rattle.std.proofs.lemmas.Bool.{true≢false}
use Rattle.std.specs.Prelude.{ℕ, zero, suc, ◌<◌, ◌==◌, Bool, true, false, cond, List, [], ◌∷◌, ◌++◌, length}
use Rattle.catalog.specs.Entries.{AreJobs, Entry, IsCatalog}
use Rattle.fact_audit.specs.TrueFacts.{IsTrueFact}
use Rattle.fact_store.proofs.SetLaws.{holds-nothing, in_with_fact}
use Rattle.fact_store.specs.Facts as sets
use Rattle.identity.specs.declared.key.Key.{Key}
use Rattle.tile_fact.specs.declared.fact.Fact.{Fact}
use Rattle.held_facts.specs.HeldFacts.{HoldsTrueFacts}
use Rattle.held_facts.proofs.LentLaws.{in_lent}
use Rattle.states.proofs.JoinLaws.{joined_parts}
use Rattle.node_state.specs.States.{State, join, lent, nothing, of_fact, of_retirement}
use Rattle.gossip_events.specs.declared.event.Event.{Event}
use Rattle.gossip_events.specs.declared.event.Event.TheVariants.{Make, Retire, Send, Deliver, Merge, Keep, Restart}
use Rattle.gossip_core.specs.Histories.{Leads, start}
use Rattle.gossip_core.specs.Networks.{Network, NodeStates, Sent}
use Rattle.gossip_core.specs.Steps.{Accepts, WorldWork, held, kept, state_at, with_held, with_kept, with_message}
use Rattle.gossip_core.specs.Truths.{AllTrue}
use Rattle.gossip_core.proofs.Following.{within_first}
use Rattle.gossip_core.proofs.MadeTruth.{made_true}
use Rattle.gossip_core.proofs.StateLaws.{held_keep, held_set, kept_keep, kept_set, state_found, states_start}

-- what holds of each message, of one more and of none holds of each then
sent_more : (P : State → Type 0) (ms : List Sent) (m : Sent) → P nothing → P m.state → ((k : ℕ) → P (state_at ms k)) → (k : ℕ)
    → P (state_at (ms ++ m ∷ []) k)
sent_more P [] m none last each zero = last
sent_more P [] m none last each (suc k) = none
sent_more P (x ∷ xs) m none last each zero = each zero
sent_more P (x ∷ xs) m none last each (suc k) = sent_more P xs m none last (λ i. each (suc i)) k

module _ (jobs : List Entry) where
  -- ---- states

  -- all facts of the state are true
  abbrev AreTrue : State → Type 0
  AreTrue s = HoldsTrueFacts jobs s.facts

  true_nothing : AreTrue nothing
  true_nothing f has = absurd (true≢false (sym has ∙ holds-nothing f))

  true_join : (s t : State) → AreTrue s → AreTrue t → AreTrue (join s t)
  true_join s t one other f has = elim (joined_parts s t f has).0 [ inl here ↦ one f here | inr here ↦ other f here ]

  true_one : (fact : Fact) → IsTrueFact jobs fact → AreTrue (of_fact fact)
  true_one fact is f has =
      elim (in_with_fact sets.nothing fact f has) [ inl same ↦ subst (IsTrueFact jobs) (sym same) is | inr here ↦ true_nothing f here ]

  true_lent : (s : State) (keys : List Key) → AreTrue s → AreTrue (lent s keys)
  true_lent s keys all f has = all f ((in_lent s.facts keys f).0 has).0

  true_either : (b : Bool) (s t : State) → AreTrue s → AreTrue t → AreTrue (cond b s t)
  true_either true s t one other = one
  true_either false s t one other = other

  -- ---- worlds

  true_start : (size : ℕ) → AllTrue jobs (start size)
  true_start size =
      record {
        holds = λ n. subst (λ (q : NodeStates). AreTrue q.held) (sym (states_start size n)) true_nothing;
        keeps = λ n. subst (λ (q : NodeStates). AreTrue q.kept) (sym (states_start size n)) true_nothing;
        sent = λ k. true_nothing;
      }

  true_message : (w : Network) (to : ℕ) (s : State) → AllTrue jobs w → AreTrue s → AllTrue jobs (with_message w to s)
  true_message w to s all is =
      record {
        holds = all.holds;
        keeps = all.keeps;
        sent = sent_more AreTrue w.messages (record { to = to; state = s }) true_nothing is all.sent;
      }

  true_held : (w : Network) (a : ℕ) (s : State) → a < length w.nodes → AllTrue jobs w → AreTrue s
      → AllTrue jobs (with_held w a s)
  true_held w a s within all is =
      record {
        holds = λ n. subst AreTrue (sym (held_set w a s n within)) (true_either (a == n) s (held w n) is (all.holds n));
        keeps = λ n. subst AreTrue (sym (kept_set w a s n within)) (all.keeps n);
        sent = all.sent;
      }

  true_kept : (w : Network) (a : ℕ) (s : State) → a < length w.nodes → AllTrue jobs w → AreTrue s
      → AllTrue jobs (with_kept w a s)
  true_kept w a s within all is =
      record {
        holds = λ n. subst AreTrue (sym (held_keep w a s n within)) (all.holds n);
        keeps = λ n. subst AreTrue (sym (kept_keep w a s n within)) (true_either (a == n) s (kept w n) is (all.keeps n));
        sent = all.sent;
      }

-- ---- each event

pub accepted_true : (u : WorldWork) (w new : Network) (e : Event) → IsCatalog u.jobs → AreJobs u.jobs → AllTrue u.jobs w → Accepts u w e new
    → AllTrue u.jobs new
accepted_true u w new (Make n key) catalog good all ok =
    let fact = ok.1.0 in
    let makes = ok.1.1 in
    subst (AllTrue u.jobs) (sym ok.1.2)
    (true_message u.jobs w n (of_fact fact) all
    (true_one u.jobs fact
    (made_true u.jobs (held w n).facts makes.inlining fact catalog good (λ f has _. all.holds n f has) makes.made.1)))
accepted_true u w new (Retire n ids) catalog good all ok =
    subst (AllTrue u.jobs) (sym ok.1) (true_message u.jobs w n (of_retirement ids) all (true_nothing u.jobs))
accepted_true u w new (Send n m keys) catalog good all ok =
    subst (AllTrue u.jobs) (sym ok.1.1)
    (true_message u.jobs w m (lent (held w n) keys) all (true_lent u.jobs (held w n) keys (all.holds n)))
accepted_true u w new (Deliver n k) catalog good all ok =
    let m = ok.1.0 in
    subst (AllTrue u.jobs) (sym ok.1.3)
    (true_held u.jobs w n (join (held w n) m.state) (within_first w n [] ok.0) all
    (true_join u.jobs (held w n) m.state (all.holds n)
    (subst (λ (s : State). HoldsTrueFacts u.jobs s.facts) (state_found w.messages m k ok.1.1) (all.sent k))))
accepted_true u w new (Merge a b) catalog good all ok =
    subst (AllTrue u.jobs) (sym ok.1)
    (true_held u.jobs w a (join (held w a) (held w b)) (within_first w a (b ∷ []) ok.0) all
    (true_join u.jobs (held w a) (held w b) (all.holds a) (all.holds b)))
accepted_true u w new (Keep n) catalog good all ok =
    subst (AllTrue u.jobs) (sym ok.1) (true_kept u.jobs w n (held w n) (within_first w n [] ok.0) all (all.holds n))
accepted_true u w new (Restart n) catalog good all ok =
    subst (AllTrue u.jobs) (sym ok.1) (true_held u.jobs w n (kept w n) (within_first w n [] ok.0) all (all.keeps n))

pub worlds_true : (u : WorldWork) (size : ℕ) (h accepted : List Event) (w : Network) → IsCatalog u.jobs → AreJobs u.jobs
    → Leads u size h accepted w → AllTrue u.jobs w
worlds_true u size [] accepted w catalog good leads = subst (AllTrue u.jobs) (sym leads.1) (true_start u.jobs size)
worlds_true u size (e ∷ h) accepted w catalog good (old, earlier, before, inl goes) =
    accepted_true u old w e catalog good (worlds_true u size h earlier old catalog good before) goes.0
worlds_true u size (e ∷ h) accepted w catalog good (old, earlier, before, inr stays) =
    subst (AllTrue u.jobs) (sym stays.1) (worlds_true u size h earlier old catalog good before)
