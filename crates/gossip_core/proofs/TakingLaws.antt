-- What came to a node, event by event.
use Rattle.std.proofs.Common.{ap, sym, ◌∙◌, subst, arith, inl, inr}
use Rattle.std.specs.Prelude.{◌≡◌, ◌≢◌, ℕ, ◌+◌, ◌<◌, ◌⊎◌}
use Rattle.std.specs.Prelude.{List, [], ◌∷◌, ◌++◌, length, refl}
use Rattle.tile_fact.specs.declared.update.Update.{Update}
use Rattle.states.specs.Updates.{Shows}
use Rattle.gossip_events.specs.declared.event.Event.{Event}
use Rattle.gossip_events.specs.declared.event.Event.TheVariants.{Make, Retire, Send, Deliver, Merge, Keep, Restart}
use Rattle.gossip_core.specs.Networks.{Sent}
use Rattle.gossip_core.specs.Steps.{state_at}
use Rattle.gossip_core.specs.Taking.{HasNo, Came, By_delivery, By_merge, By_keep, CameAtKeep}
use Rattle.gossip_core.proofs.StateLaws.{state_before}

-- ---- one event more

module _ (ms : List Sent) (u : Update) where
  pub came_later : (e : Event) (h : List Event) (n : ℕ) → e ≢ Restart n → Came ms u h n → Came ms u (e ∷ h) n
  came_later e _ _ other (By_delivery h later before n k parts none says) =
      By_delivery (e ∷ h) (e ∷ later) before n k (ap (λ es. e ∷ es) parts) (other, none) says
  came_later e _ _ other (By_merge h later before n b parts none took) =
      By_merge (e ∷ h) (e ∷ later) before n b (ap (λ es. e ∷ es) parts) (other, none) took
  came_later e _ _ other (By_keep h later between before n parts none last took) =
      By_keep (e ∷ h) (e ∷ later) between before n (ap (λ es. e ∷ es) parts) (other, none) last took

  pub kept_later : (e : Event) (h : List Event) (n : ℕ) → e ≢ Keep n → CameAtKeep ms u h n → CameAtKeep ms u (e ∷ h) n
  kept_later e h n other t =
      record { between = e ∷ t.between; before = t.before; parts = ap (λ es. e ∷ es) t.parts; last = (other, t.last); came = t.came }

  -- what the newest event alone gives a node
  abbrev pub Gives : Event → List Event → ℕ → Type 0
  Gives (Deliver a k) h n = (a ≡ n) × (Shows (state_at ms k) u)
  Gives (Merge a b) h n = (a ≡ n) × Came ms u h b
  Gives (Restart a) h n = (a ≡ n) × CameAtKeep ms u h n
  Gives (Make a key) h n = ⊥
  Gives (Retire a ids) h n = ⊥
  Gives (Send a m keys) h n = ⊥
  Gives (Keep a) h n = ⊥

  abbrev pub Newly : Event → List Event → ℕ → Type 0
  Newly e h n = Gives e h n ⊎ ((e ≢ Restart n) × Came ms u h n)

  delivered : (e : Event) (h later before : List Event) (n k : ℕ) → (e ∷ h) ≡ later ++ Deliver n k ∷ before → HasNo (Restart n) later
      → Shows (state_at ms k) u → Newly e h n
  delivered e h [] before n k parts none says =
      let is : Deliver n k ≡ e = cc in subst (λ x. Newly x h n) is (inl (refl, says))
  delivered e h (x ∷ later) before n k parts none says =
      let is : x ≡ e = cc in
      let rest : h ≡ later ++ Deliver n k ∷ before = cc in
      inr (subst (λ y. y ≢ Restart n) is none.0, By_delivery h later before n k rest none.1 says)

  merged : (e : Event) (h later before : List Event) (n b : ℕ) → (e ∷ h) ≡ later ++ Merge n b ∷ before → HasNo (Restart n) later
      → Came ms u before b → Newly e h n
  merged e h [] before n b parts none took =
      let is : Merge n b ≡ e = cc in
      let rest : before ≡ h = cc in
      subst (λ x. Newly x h n) is (inl (refl, subst (λ (es : List Event). Came ms u es b) rest took))
  merged e h (x ∷ later) before n b parts none took =
      let is : x ≡ e = cc in
      let rest : h ≡ later ++ Merge n b ∷ before = cc in
      inr (subst (λ y. y ≢ Restart n) is none.0, By_merge h later before n b rest none.1 took)

  restarted : (e : Event) (h later between before : List Event) (n : ℕ) → (e ∷ h) ≡ later ++ Restart n ∷ (between ++ Keep n ∷ before)
      → HasNo (Restart n) later → HasNo (Keep n) between → Came ms u before n → Newly e h n
  restarted e h [] between before n parts none last took =
      let is : Restart n ≡ e = cc in
      let rest : h ≡ between ++ Keep n ∷ before = cc in
      subst (λ x. Newly x h n) is (inl (refl, record { between = between; before = before; parts = rest; last = last; came = took }))
  restarted e h (x ∷ later) between before n parts none last took =
      let is : x ≡ e = cc in
      let rest : h ≡ later ++ Restart n ∷ (between ++ Keep n ∷ before) = cc in
      inr (subst (λ y. y ≢ Restart n) is none.0, By_keep h later between before n rest none.1 last took)

  newly_of : (e : Event) (h whole : List Event) (n : ℕ) → (e ∷ h) ≡ whole → Came ms u whole n → Newly e h n
  newly_of e h _ _ same (By_delivery whole later before n k parts none says) = delivered e h later before n k (same ∙ parts) none says
  newly_of e h _ _ same (By_merge whole later before n b parts none took) = merged e h later before n b (same ∙ parts) none took
  newly_of e h _ _ same (By_keep whole later between before n parts none last took) =
      restarted e h later between before n (same ∙ parts) none last took

  pub came_newly : (e : Event) (h : List Event) (n : ℕ) → Came ms u (e ∷ h) n → Newly e h n
  came_newly e h n came = newly_of e h (e ∷ h) n refl came

  pub gives_came : (e : Event) (h : List Event) (n : ℕ) → Gives e h n → Came ms u (e ∷ h) n
  gives_came (Deliver a k) h n (same, says) =
      By_delivery (Deliver a k ∷ h) [] h n k (ap (λ i. Deliver i k ∷ h) same) tt says
  gives_came (Merge a b) h n (same, took) = By_merge (Merge a b ∷ h) [] h n b (ap (λ i. Merge i b ∷ h) same) tt took
  gives_came (Restart a) h n (same, t) =
      By_keep (Restart a ∷ h) [] t.between t.before n (ap (λ i. Restart i ∷ h) same ∙ ap (λ es. Restart n ∷ es) t.parts) tt t.last t.came
  gives_came (Make a key) h n none = absurd none
  gives_came (Retire a ids) h n none = absurd none
  gives_came (Send a m keys) h n none = absurd none
  gives_came (Keep a) h n none = absurd none

  abbrev pub NewlyKept : Event → List Event → ℕ → Type 0
  NewlyKept e h n = ((e ≡ Keep n) × Came ms u h n) ⊎ ((e ≢ Keep n) × CameAtKeep ms u h n)

  kept_of : (e : Event) (h between before : List Event) (n : ℕ) → (e ∷ h) ≡ between ++ Keep n ∷ before → HasNo (Keep n) between
      → Came ms u before n → NewlyKept e h n
  kept_of e h [] before n parts last took =
      let is : e ≡ Keep n = cc in
      let rest : before ≡ h = cc in
      inl (is, subst (λ (es : List Event). Came ms u es n) rest took)
  kept_of e h (x ∷ between) before n parts last took =
      let is : x ≡ e = cc in
      let rest : h ≡ between ++ Keep n ∷ before = cc in
      inr (subst (λ y. y ≢ Keep n) is last.0, record { between = between; before = before; parts = rest; last = last.1; came = took })

  pub kept_newly : (e : Event) (h : List Event) (n : ℕ) → CameAtKeep ms u (e ∷ h) n → NewlyKept e h n
  kept_newly e h n t = kept_of e h t.between t.before n t.parts t.last t.came

  pub kept_here : (h : List Event) (n : ℕ) → Came ms u h n → CameAtKeep ms u (Keep n ∷ h) n
  kept_here h n came = record { between = []; before = h; parts = refl; last = tt; came = came }

-- ---- one message more

-- messages that came were sent
abbrev pub IsSent : ℕ → Event → Type 0
IsSent count (Deliver n k) = k < count
IsSent count (Make n key) = Unit {0}
IsSent count (Retire n ids) = Unit {0}
IsSent count (Send n m keys) = Unit {0}
IsSent count (Merge a b) = Unit {0}
IsSent count (Keep n) = Unit {0}
IsSent count (Restart n) = Unit {0}

abbrev pub AreSent : ℕ → List Event → Type 0
AreSent count [] = Unit {0}
AreSent count (e ∷ h) = IsSent count e × AreSent count h

sent_more : (count : ℕ) (e : Event) → IsSent count e → IsSent (count + 1) e
sent_more count (Deliver n k) is = omega (arith, is)
sent_more count (Make n key) is = tt
sent_more count (Retire n ids) is = tt
sent_more count (Send n m keys) is = tt
sent_more count (Merge a b) is = tt
sent_more count (Keep n) is = tt
sent_more count (Restart n) is = tt

pub all_sent_more : (count : ℕ) (h : List Event) → AreSent count h → AreSent (count + 1) h
all_sent_more count [] are = tt
all_sent_more count (e ∷ h) are = (sent_more count e are.0, all_sent_more count h are.1)

pub sent_behind : (count : ℕ) (later before : List Event) → AreSent count (later ++ before) → AreSent count before
sent_behind count [] before are = are
sent_behind count (e ∷ later) before are = sent_behind count later before are.1

module _ (ms : List Sent) (m : Sent) (u : Update) where
  pub grown : (h : List Event) (n : ℕ) → AreSent (length ms) h → Came ms u h n → Came (ms ++ m ∷ []) u h n
  grown _ _ are (By_delivery h later before n k parts none says) =
      let behind = sent_behind (length ms) later (Deliver n k ∷ before) (subst (AreSent (length ms)) parts are) in
      By_delivery h later before n k parts none (subst (λ s. Shows s u) (sym (state_before ms m k behind.0)) says)
  grown _ _ are (By_merge h later before n b parts none took) =
      let behind = sent_behind (length ms) later (Merge n b ∷ before) (subst (AreSent (length ms)) parts are) in
      By_merge h later before n b parts none (grown before b behind.1 took)
  grown _ _ are (By_keep h later between before n parts none last took) =
      let behind = sent_behind (length ms) later (Restart n ∷ (between ++ Keep n ∷ before)) (subst (AreSent (length ms)) parts are) in
      let kept = sent_behind (length ms) between (Keep n ∷ before) behind.1 in
      By_keep h later between before n parts none last (grown before n kept.1 took)

  pub ungrown : (h : List Event) (n : ℕ) → AreSent (length ms) h → Came (ms ++ m ∷ []) u h n → Came ms u h n
  ungrown _ _ are (By_delivery h later before n k parts none says) =
      let behind = sent_behind (length ms) later (Deliver n k ∷ before) (subst (AreSent (length ms)) parts are) in
      By_delivery h later before n k parts none (subst (λ s. Shows s u) (state_before ms m k behind.0) says)
  ungrown _ _ are (By_merge h later before n b parts none took) =
      let behind = sent_behind (length ms) later (Merge n b ∷ before) (subst (AreSent (length ms)) parts are) in
      By_merge h later before n b parts none (ungrown before b behind.1 took)
  ungrown _ _ are (By_keep h later between before n parts none last took) =
      let behind = sent_behind (length ms) later (Restart n ∷ (between ++ Keep n ∷ before)) (subst (AreSent (length ms)) parts are) in
      let kept = sent_behind (length ms) between (Keep n ∷ before) behind.1 in
      By_keep h later between before n parts none last (ungrown before n kept.1 took)

  pub kept_grown : (h : List Event) (n : ℕ) → AreSent (length ms) h → CameAtKeep ms u h n → CameAtKeep (ms ++ m ∷ []) u h n
  kept_grown h n are t =
      let behind = sent_behind (length ms) t.between (Keep n ∷ t.before) (subst (AreSent (length ms)) t.parts are) in
      record { between = t.between; before = t.before; parts = t.parts; last = t.last; came = grown t.before n behind.1 t.came }

  pub kept_ungrown : (h : List Event) (n : ℕ) → AreSent (length ms) h → CameAtKeep (ms ++ m ∷ []) u h n → CameAtKeep ms u h n
  kept_ungrown h n are t =
      let behind = sent_behind (length ms) t.between (Keep n ∷ t.before) (subst (AreSent (length ms)) t.parts are) in
      record { between = t.between; before = t.before; parts = t.parts; last = t.last; came = ungrown t.before n behind.1 t.came }
