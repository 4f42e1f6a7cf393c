-- A history played in a world.
use Rattle.std.proofs.Common.{ap, sym, ◌∙◌, subst, arith, refl, append_assoc, append-nil}
use Rattle.std.proofs.lemmas.List.{length-replicate}
use Rattle.std.proofs.lemmas.List.Elements.{All-cons, All-nil}
use Rattle.std.specs.List.{All}
use Rattle.std.specs.Prelude.{◌≡◌, ℕ, zero, suc, ◌<◌, List, [], ◌∷◌, ◌++◌, Some, length, replicate, slice_get, slice_set}
use Rattle.node_state.specs.States.{State, join}
use Rattle.states.proofs.LeaveLaws.{left_same}
use Rattle.live_nodes.specs.Histories.{Node, node_after, replay, replay_from}
use Rattle.live_nodes.specs.Updates.{state_of}
use Rattle.live_nodes.specs.declared.event.Event.{Event}
use Rattle.live_nodes.specs.declared.event.Event.TheVariants.{Lent, Took, Kept, Restarted}
use Rattle.gossip_core.proofs.Following.{Follows, follows_start, follows_step, taken_grown}
use Rattle.gossip_core.proofs.StateLaws.{states_start}
use Rattle.gossip_core.specs.Networks.{Network, NodeStates, Sent}
use Rattle.gossip_core.specs.Steps.{WorldWork, held, kept, no_states, states_at, with_held}
use Rattle.gossip_core.proofs.TakingLaws.{kept_grown, kept_ungrown}
use Rattle.gossip_core.specs.Taking.{CameAtKeep, IsTaken, IsTakenAtKeep}
use Rattle.gossip_events.specs.declared.event.Event.{Event as Step}
use Rattle.gossip_events.specs.declared.event.Event.TheVariants.{Deliver, Keep, Restart}
use Rattle.node_histories.specs.Playing.{Plays, Runs, newest_first, node_in, with_node}

-- ---- nodes in place of nodes

states : Node → NodeStates
states node = record { held = node.held; kept = node.kept }

set_same : (nodes : List NodeStates) (n : ℕ) → n < length nodes → slice_set nodes n (states_at nodes n) ≡ nodes
set_same [] n within = absurd (omega (arith, within))
set_same (x ∷ nodes) zero within = refl
set_same (x ∷ nodes) (suc n) within = ap (λ (ns : List NodeStates). x ∷ ns) (set_same nodes n (omega (arith, within)))

set_again : (nodes : List NodeStates) (n : ℕ) (a b : NodeStates) → slice_set (slice_set nodes n a) n b ≡ slice_set nodes n b
set_again [] n a b = refl
set_again (x ∷ nodes) zero a b = refl
set_again (x ∷ nodes) (suc n) a b = ap (λ (ns : List NodeStates). x ∷ ns) (set_again nodes n a b)

set_at : (nodes : List NodeStates) (n : ℕ) (a : NodeStates) → n < length nodes → states_at (slice_set nodes n a) n ≡ a
set_at [] n a within = absurd (omega (arith, within))
set_at (x ∷ nodes) zero a within = refl
set_at (x ∷ nodes) (suc n) a within = set_at nodes n a (omega (arith, within))

set_length : (nodes : List NodeStates) (n : ℕ) (a : NodeStates) → length (slice_set nodes n a) ≡ length nodes
set_length [] n a = refl
set_length (x ∷ nodes) zero a = refl
set_length (x ∷ nodes) (suc n) a = ap suc (set_length nodes n a)

abbrev with_nodes : Network → List NodeStates → Network
with_nodes w nodes = record w { nodes = nodes }

-- the world is as it was with its own node in the node's place
own_node : (w : Network) (n : ℕ) → n < length w.nodes → with_node w n (node_in w n) ≡ w
own_node w n within = ap (with_nodes w) (set_same w.nodes n within)

node_again : (w : Network) (n : ℕ) (a b : Node) → with_node (with_node w n a) n b ≡ with_node w n b
node_again w n a b = ap (with_nodes w) (set_again w.nodes n _ _)

node_at : (w : Network) (n : ℕ) (a : Node) → n < length w.nodes → node_in (with_node w n a) n ≡ a
node_at w n a within = ap (λ (s : NodeStates). record { held = s.held; kept = s.kept }) (set_at w.nodes n _ within)

kept_length : (w : Network) (n : ℕ) (a : Node) → n < length w.nodes → n < length (with_node w n a).nodes
kept_length w n a within = let same = set_length w.nodes n (record { held = a.held; kept = a.kept }) in omega (arith, within, same)

-- ---- one event after another

module _ (u : WorldWork) (n : ℕ) where
  has_node : (w : Network) → n < length w.nodes → All (λ m. m < length w.nodes) (n ∷ [])
  has_node w within = All-cons (λ m. m < length w.nodes) n [] within (All-nil (λ m. m < length w.nodes))

  -- after an event the node is the one in whose place it came
  settled : (w : Network) (node : Node) (h : List Event) → n < length w.nodes
      → with_node (with_node w n node) n (replay_from (node_in (with_node w n node) n) h) ≡ with_node w n (replay_from node h)
  settled w node h within =
      node_again w n node (replay_from (node_in (with_node w n node) n) h) ∙ ap (λ (x : Node). with_node w n (replay_from x h))
      (node_at w n node within)

  pub runs : (w : Network) (h : List Event) (events : List Step) → n < length w.nodes → Plays w.messages n h events
      → Runs u w events (with_node w n (replay_from (node_in w n) h))
  runs w [] events within plays = subst (λ (es : List Step). Runs u w es (with_node w n (node_in w n))) (sym plays) (own_node w n within)
  runs w (Lent keys retired ∷ h) events within plays = runs w h events within plays
  runs w (Took us ∷ h) events within (k, rest, same, brings, plays) =
      let node = node_after (node_in w n) (Took us) in
      subst (λ (es : List Step). Runs u w es (with_node w n (replay_from node h))) (sym same) (
        with_node w n node,
        (has_node w within, (record { to = n; state = state_of us }, brings, refl, refl)),
        subst (Runs u (with_node w n node) rest) (settled w node h within)
            (runs (with_node w n node) h rest (kept_length w n node within) plays),
      )
  runs w (Kept ∷ h) events within (rest, same, plays) =
      let node = node_after (node_in w n) Kept in
      subst (λ (es : List Step). Runs u w es (with_node w n (replay_from node h))) (sym same) (
        with_node w n node,
        (has_node w within, refl),
        subst (Runs u (with_node w n node) rest) (settled w node h within)
            (runs (with_node w n node) h rest (kept_length w n node within) plays),
      )
  runs w (Restarted ∷ h) events within (rest, same, plays) =
      let node = node_after (node_in w n) Restarted in
      subst (λ (es : List Step). Runs u w es (with_node w n (replay_from node h))) (sym same) (
        with_node w n node,
        (has_node w within, refl),
        subst (Runs u (with_node w n node) rest) (settled w node h within)
            (runs (with_node w n node) h rest (kept_length w n node within) plays),
      )

  same_message : (ms : List Sent) (k : ℕ) (a b : Sent) → slice_get ms k ≡ Some a → slice_get ms k ≡ Some b → a ≡ b
  same_message ms k a b first second = cc

  pub only : (w new : Network) (h : List Event) (events : List Step) → n < length w.nodes → Plays w.messages n h events
      → Runs u w events new
      → new ≡ with_node w n (replay_from (node_in w n) h)
  only w new [] events within plays run =
      let there : new ≡ w = subst (λ (es : List Step). Runs u w es new) plays run in there ∙ sym (own_node w n within)
  only w new (Lent keys retired ∷ h) events within plays run = only w new h events within plays run
  only w new (Took us ∷ h) events within (k, rest, same, brings, plays) run =
      let node = node_after (node_in w n) (Took us) in
      let one = subst (λ (es : List Step). Runs u w es new) same run in
      let is = same_message w.messages k _ _ one.1.1.1 brings in
      let next : one.0 ≡ with_node w n node = one.1.1.3 ∙ ap (λ (m : Sent). with_held w n (join (held w n) m.state)) is in
      only (with_node w n node) new h rest (kept_length w n node within) plays (subst (λ (x : Network). Runs u x rest new) next one.2)
      ∙ settled w node h within
  only w new (Kept ∷ h) events within (rest, same, plays) run =
      let node = node_after (node_in w n) Kept in
      let one = subst (λ (es : List Step). Runs u w es new) same run in
      only (with_node w n node) new h rest (kept_length w n node within) plays (subst (λ (x : Network). Runs u x rest new) one.1.1 one.2)
      ∙ settled w node h within
  only w new (Restarted ∷ h) events within (rest, same, plays) run =
      let node = node_after (node_in w n) Restarted in
      let one = subst (λ (es : List Step). Runs u w es new) same run in
      only (with_node w n node) new h rest (kept_length w n node within) plays (subst (λ (x : Network). Runs u x rest new) one.1.1 one.2)
      ∙ settled w node h within

-- ---- messages for each history

sent_there : (ms more : List Sent) (m : Sent) → slice_get (ms ++ m ∷ more) (length ms) ≡ Some m
sent_there [] more m = refl
sent_there (x ∷ ms) more m = sent_there ms more m

each_from : (n : ℕ) (ms : List Sent) (h : List Event) → (more : List Sent) × (events : List Step) × Plays (ms ++ more) n h events
each_from n ms [] = ([], [], refl)
each_from n ms (Lent keys retired ∷ h) = each_from n ms h
each_from n ms (Took us ∷ h) =
    let m : Sent = record { to = n; state = state_of us } in
    let rest = each_from n (ms ++ m ∷ []) h in
    let plays = subst (λ (all : List Sent). Plays all n h rest.1) (append_assoc ms (m ∷ []) rest.0) rest.2 in
    (m ∷ rest.0, Deliver n (length ms) ∷ rest.1, (length ms, rest.1, refl, sent_there ms rest.0 m, plays))
each_from n ms (Kept ∷ h) = let rest = each_from n ms h in (rest.0, Keep n ∷ rest.1, (rest.1, refl, rest.2))
each_from n ms (Restarted ∷ h) = let rest = each_from n ms h in (rest.0, Restart n ∷ rest.1, (rest.1, refl, rest.2))

pub each : (n : ℕ) (h : List Event) → (messages : List Sent) × (events : List Step) × Plays messages n h events
each n h = each_from n [] h

-- ---- what the node took

abbrev no_work : WorldWork
no_work = record { jobs = []; schedules = [] }

-- so many nodes that hold nothing, beside messages from anybody
abbrev beside : List Sent → ℕ → Network
beside ms size = record { nodes = replicate size no_states; messages = ms }

-- more messages give nothing where no event was
module _ (n : ℕ) (s : State) where
  taken_beside : (ms more : List Sent) → IsTaken ms [] n s → IsTaken (ms ++ more) [] n s
  taken_beside ms [] is = subst (λ (all : List Sent). IsTaken all [] n s) (sym (append-nil ms)) is
  taken_beside ms (m ∷ more) is =
      subst (λ (all : List Sent). IsTaken all [] n s) (append_assoc ms (m ∷ []) more)
      (taken_beside (ms ++ m ∷ []) more (taken_grown ms m [] n s tt is))

  kept_more : (ms : List Sent) (m : Sent) → IsTakenAtKeep ms [] n s → IsTakenAtKeep (ms ++ m ∷ []) [] n s
  kept_more ms m is =
      left_same (λ u. CameAtKeep ms u [] n) (λ u. CameAtKeep (ms ++ m ∷ []) u [] n) s is
      (λ u. (kept_grown ms m u [] n tt, kept_ungrown ms m u [] n tt))

  kept_beside : (ms more : List Sent) → IsTakenAtKeep ms [] n s → IsTakenAtKeep (ms ++ more) [] n s
  kept_beside ms [] is = subst (λ (all : List Sent). IsTakenAtKeep all [] n s) (sym (append-nil ms)) is
  kept_beside ms (m ∷ more) is =
      subst (λ (all : List Sent). IsTakenAtKeep all [] n s) (append_assoc ms (m ∷ []) more)
      (kept_beside (ms ++ m ∷ []) more (kept_more ms m is))

follows_none : (ms : List Sent) (size : ℕ) → Follows [] (beside ms size)
follows_none ms size =
    record {
      holds = λ n. taken_beside n (held (beside ms size) n) [] ms ((follows_start size).holds n);
      keeps = λ n. kept_beside n (kept (beside ms size) n) [] ms ((follows_start size).keeps n);
      sent = tt;
    }

follows_runs : (u : WorldWork) (w new : Network) (events before : List Step) → Follows before w → Runs u w events new
    → Follows (newest_first events before) new
follows_runs u w new [] before is run = subst (Follows before) (sym run) is
follows_runs u w new (e ∷ events) before is (next, accepts, run) =
    follows_runs u next new events (e ∷ before) (follows_step u before w next e is accepts) run

enough : (n : ℕ) → n < length (replicate (suc n) no_states)
enough n = let long = length-replicate (suc n) no_states in omega (arith, long)

module _ (ms : List Sent) (n : ℕ) (h : List Event) (events : List Step) (plays : Plays ms n h events) where
  abbrev there : Network
  there = with_node (beside ms (suc n)) n (replay_from (node_in (beside ms (suc n)) n) h)

  follows : Follows (newest_first events []) there
  follows =
      follows_runs no_work (beside ms (suc n)) there events [] (follows_none ms (suc n))
      (runs no_work n (beside ms (suc n)) h events (enough n) plays)

  left : node_in there n ≡ replay h
  left =
      node_at (beside ms (suc n)) n (replay_from (node_in (beside ms (suc n)) n) h) (enough n)
      ∙ ap (λ (s : NodeStates). replay_from (record { held = s.held; kept = s.kept }) h) (states_start (suc n) n)

  pub held_is_taken : IsTaken ms (newest_first events []) n (replay h).held
  held_is_taken = subst (IsTaken ms (newest_first events []) n) (ap (λ (x : Node). x.held) left) (follows.holds n)

  pub kept_is_taken : IsTakenAtKeep ms (newest_first events []) n (replay h).kept
  kept_is_taken = subst (IsTakenAtKeep ms (newest_first events []) n) (ap (λ (x : Node). x.kept) left) (follows.keeps n)
