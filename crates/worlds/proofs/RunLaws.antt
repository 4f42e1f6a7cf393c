-- How far a run has gone after each event.
use Rattle.std.proofs.Common.{arith, ℕ, suc, ◌≡◌, ◌≢◌, ◌+◌, ◌<◌, List, [], ◌∷◌, ◌++◌, get_or, length, reverse, take, refl, sym}
use Rattle.std.proofs.Common.{ap, ◌∙◌, subst, inl, inr}
use Rattle.std.proofs.Common.{take-suc, length-take-le, Option, Some, None, Ok, SomeIff, ok_or, Bool, true, false, IsTrue}
use Rattle.std.proofs.lemmas.List.{length-append, reverse-append}
use Rattle.gossip_core.specs.Histories.{Leads}
use Rattle.gossip_core.specs.Steps.{Accepts, Refuses}
use Rattle.gossip_core.specs.declared.fault.StepFault.{StepFault}
use Rattle.gossip_core.specs.declared.fault.StepFault.TheVariants.{Memory}
use Rattle.std.specs.declared.alloc.AllocError.{AllocError}
use Rattle.gossip_core.specs.Finishing.{makings}
use Rattle.gossip_events.specs.declared.event.Event.{Event}
use Rattle.gossip_events.specs.declared.event.Event.TheVariants.{Make, Deliver}
use Rattle.identity.specs.declared.key.Key.{Key}
use Rattle.std.proofs.lemmas.Bool.{true≢false}
use Rattle.worlds.specs.Worlds.{RunsOn, WorldView}

pub run_starts : (w : WorldView) (size : ℕ) (h accepted events : List Event) → Leads w.work size h accepted w.network
    → RunsOn w size h accepted (take 0 events) 0
run_starts w size h accepted events leads = record { later = accepted; leads = leads; count = refl }

one_more : (h events : List Event) (e : Event) → reverse (events ++ e ∷ []) ++ h ≡ e ∷ (reverse events ++ h)
one_more h events e = ap (λ es. es ++ h) (reverse-append events (e ∷ []))

module _ (w new : WorldView) (size : ℕ) (h accepted events : List Event) (e : Event) (refused : ℕ) (work : new.work ≡ w.work)
    (runs : RunsOn w size h accepted events refused) where
  long : length (events ++ e ∷ []) ≡ length events + 1
  long = length-append events (e ∷ [])

  pub runs_accepted : Accepts w.work w.network e new.network → RunsOn new size h accepted (events ++ e ∷ []) refused
  runs_accepted ok = record {
    later = e ∷ runs.later;
    leads =
        subst (λ es. Leads new.work size es (e ∷ runs.later) new.network) (sym (one_more h events e))
        (subst (λ u. Leads u size (e ∷ (reverse events ++ h)) (e ∷ runs.later) new.network) (sym work)
        (w.network, runs.later, runs.leads, inl (ok, refl)));
    count = let before = runs.count in omega (arith, before, long);
  }

  pub runs_refused : (fault : StepFault) → fault ≢ Memory → Refuses w.work w.network e new.network fault
      → RunsOn new size h accepted (events ++ e ∷ []) (refused + 1)
  runs_refused fault other refuses = record {
    later = runs.later;
    leads =
        subst (λ es. Leads new.work size es runs.later new.network) (sym (one_more h events e))
        (subst (λ u. Leads u size (e ∷ (reverse events ++ h)) runs.later new.network) (sym work)
        (w.network, runs.later, runs.leads, inr ((fault, other, refuses.first), refuses.unchanged, refl)));
    count = let before = runs.count in omega (arith, before, long);
  }

-- the events up to the next one
pub next_taken : {X : Type 0} (events : List X) (i : ℕ) (e : X) → i < length events → e ≡ get_or events i e
    → take i events ++ e ∷ [] ≡ take (i + 1) events
next_taken events i e within is =
    sym (ap (λ k. take k events) next ∙ take-suc events i e within ∙ ap (λ x. take i events ++ x ∷ []) (sym is))
  where
    next : i + 1 ≡ suc i
    next = omega arith

pub not_memory : (fault : StepFault) (b : Bool) → b ≡ false → (fault ≡ Memory → IsTrue b) → fault ≢ Memory
not_memory fault b not_said says e = absurd (true≢false (sym (says e) ∙ not_said))

-- ---- the events that make and deliver

pub makings_more : (n sent : ℕ) (keys : List Key) (key : Key) (message : ℕ) → message ≡ sent + length keys
    → makings n sent (keys ++ key ∷ []) ≡ makings n sent keys ++ Make n key ∷ Deliver n message ∷ []
makings_more n sent [] key message is = let same : message ≡ sent = omega (arith, is) in ap (λ k. Make n key ∷ Deliver n k ∷ []) (sym same)
makings_more n sent (x ∷ keys) key message is =
    ap (λ es. Make n x ∷ Deliver n sent ∷ es) (makings_more n (suc sent) keys key message (omega (arith, is)))

-- with one event more for each half of a pair
both_more : {X : Type 0} (xs : List X) (a b : X) → (xs ++ a ∷ []) ++ b ∷ [] ≡ xs ++ a ∷ b ∷ []
both_more [] a b = refl
both_more (x ∷ xs) a b = ap (λ ys. x ∷ ys) (both_more xs a b)

pub makings_taken : (n sent : ℕ) (keys : List Key) (i : ℕ) (key : Key) (message : ℕ) → message ≡ sent + i → i < length keys
    → key ≡ get_or keys i key
    → (makings n sent (take i keys) ++ Make n key ∷ []) ++ Deliver n message ∷ [] ≡ makings n sent (take (i + 1) keys)
makings_taken n sent keys i key message is within there =
    both_more (makings n sent (take i keys)) (Make n key) (Deliver n message)
    ∙ sym (makings_more n sent (take i keys) key message (is ∙ ap (λ k. sent + k) (sym (length-take-le i keys (omega (arith, within))))))
    ∙ ap (makings n sent) (next_taken keys i key within there)

pub added_one : (m limit next : ℕ) (o : Option ℕ) → SomeIff o (m + 1 < limit) (m + 1) → Ok next ≡ ok_or {E = AllocError} o record {}
    → next ≡ m + 1
added_one m limit next None says e = cc
added_one m limit next (Some x) says e = let same : next ≡ x = cc in same ∙ says.1
