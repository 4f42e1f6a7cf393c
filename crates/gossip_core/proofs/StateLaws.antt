-- What nodes hold and keep after one of them has changed.
use Rattle.std.proofs.Common.{ap, sym, ◌∙◌, arith}
use Rattle.std.proofs.Math.Dec.{eqb-suc-zero, eqb-zero-suc, eqb-suc-suc}
use Rattle.std.proofs.lemmas.Bool.{eqb-true}
use Rattle.std.specs.Prelude.{◌≡◌, ℕ, zero, suc, ◌<◌, ◌==◌, Bool, true, false, cond, if◌then◌else◌, List, [], ◌∷◌, ◌++◌}
use Rattle.std.specs.Prelude.{Some, length, refl, replicate, slice_get, slice_set}
use Rattle.node_state.specs.States.{State}
use Rattle.gossip_core.specs.Networks.{Network, NodeStates, Sent}
use Rattle.gossip_core.specs.Steps.{held, kept, no_states, state_at, states_at, with_held, with_kept}

-- ---- nodes

pub states_set : (nodes : List NodeStates) (a : ℕ) (q : NodeStates) (n : ℕ) → a < length nodes
    → states_at (slice_set nodes a q) n ≡ (if a == n then q else states_at nodes n)
states_set [] a q n within = absurd (omega (arith, within))
states_set (x ∷ xs) zero q zero within = refl
states_set (x ∷ xs) zero q (suc n) within = ap (λ b. cond b q (states_at xs n)) (sym (eqb-zero-suc n))
states_set (x ∷ xs) (suc a) q zero within = ap (λ b. cond b q x) (sym (eqb-suc-zero a))
states_set (x ∷ xs) (suc a) q (suc n) within =
    states_set xs a q n (omega (arith, within)) ∙ ap (λ b. cond b q (states_at xs n)) (sym (eqb-suc-suc a n))

pick_held : (b : Bool) (q r : NodeStates) → (cond b q r).held ≡ cond b q.held r.held
pick_held true q r = refl
pick_held false q r = refl

pick_kept : (b : Bool) (q r : NodeStates) → (cond b q r).kept ≡ cond b q.kept r.kept
pick_kept true q r = refl
pick_kept false q r = refl

either_way : {A : Type 0} (b : Bool) (x y : A) → (b ≡ true → x ≡ y) → cond b x y ≡ y
either_way true x y same = same refl
either_way false x y same = refl

pub held_set : (w : Network) (a : ℕ) (s : State) (n : ℕ) → a < length w.nodes → held (with_held w a s) n ≡ (if a == n then s else held w n)
held_set w a s n within =
    ap (λ (q : NodeStates). q.held) (states_set w.nodes a (record { held = s; kept = kept w a }) n within)
    ∙ pick_held (a == n) (record { held = s; kept = kept w a }) (states_at w.nodes n)

pub kept_set : (w : Network) (a : ℕ) (s : State) (n : ℕ) → a < length w.nodes → kept (with_held w a s) n ≡ kept w n
kept_set w a s n within =
    ap (λ (q : NodeStates). q.kept) (states_set w.nodes a (record { held = s; kept = kept w a }) n within)
    ∙ pick_kept (a == n) (record { held = s; kept = kept w a }) (states_at w.nodes n)
    ∙ either_way (a == n) (kept w a) (kept w n) (λ t. ap (kept w) (eqb-true a n t))

pub held_keep : (w : Network) (a : ℕ) (s : State) (n : ℕ) → a < length w.nodes → held (with_kept w a s) n ≡ held w n
held_keep w a s n within =
    ap (λ (q : NodeStates). q.held) (states_set w.nodes a (record { held = held w a; kept = s }) n within)
    ∙ pick_held (a == n) (record { held = held w a; kept = s }) (states_at w.nodes n)
    ∙ either_way (a == n) (held w a) (held w n) (λ t. ap (held w) (eqb-true a n t))

pub kept_keep : (w : Network) (a : ℕ) (s : State) (n : ℕ) → a < length w.nodes → kept (with_kept w a s) n ≡ (if a == n then s else kept w n)
kept_keep w a s n within =
    ap (λ (q : NodeStates). q.kept) (states_set w.nodes a (record { held = held w a; kept = s }) n within)
    ∙ pick_kept (a == n) (record { held = held w a; kept = s }) (states_at w.nodes n)

pub states_start : (size n : ℕ) → states_at (replicate size no_states) n ≡ no_states
states_start zero n = refl
states_start (suc size) zero = refl
states_start (suc size) (suc n) = states_start size n

pub length-slice_set_nodes : (nodes : List NodeStates) (a : ℕ) (q : NodeStates) → length (slice_set nodes a q) ≡ length nodes
length-slice_set_nodes [] a q = refl
length-slice_set_nodes (x ∷ xs) zero q = refl
length-slice_set_nodes (x ∷ xs) (suc a) q = ap suc (length-slice_set_nodes xs a q)

-- ---- messages

pub state_before : (messages : List Sent) (m : Sent) (k : ℕ) → k < length messages → state_at (messages ++ m ∷ []) k ≡ state_at messages k
state_before [] m k within = absurd (omega (arith, within))
state_before (x ∷ xs) m zero within = refl
state_before (x ∷ xs) m (suc k) within = state_before xs m k (omega (arith, within))

pub state_found : (messages : List Sent) (m : Sent) (k : ℕ) → slice_get messages k ≡ Some m → (state_at messages k ≡ m.state)
state_found [] m k there = cc
state_found (x ∷ xs) m zero there = let same : x ≡ m = cc in ap (λ (y : Sent). y.state) same
state_found (x ∷ xs) m (suc k) there = state_found xs m k there

pub found_within : (messages : List Sent) (m : Sent) (k : ℕ) → slice_get messages k ≡ Some m → k < length messages
found_within [] m k there = cc
found_within (x ∷ xs) m zero there = omega arith
found_within (x ∷ xs) m (suc k) there = let below = found_within xs m k there in omega (arith, below)
