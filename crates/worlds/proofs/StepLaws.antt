-- What events need of the nodes and the jobs, over plain variables.
use Rattle.std.proofs.Common.{arith, ℕ, ◌==◌, cond, get_or, ◌≡◌, ◌≢◌, ◌<◌, ◌≤◌, Bool, List, [], ◌∷◌, Option, Some, None, Result}
use Rattle.std.proofs.Common.{Ok, Err, IfOk, IfErr, IfSome, IfNone, option_map, length, refl, sym, ap, ◌∙◌, subst, zero, suc}
use Rattle.std.specs.List.{All, Contains}
use Rattle.std.proofs.lemmas.Bool.{eq-eqb}
use Rattle.std.specs.Prelude.{slice_get, slice_set, unwrap_or}
use Rattle.std.proofs.lemmas.Option.{none-some, same_Some, slice_get_within, slice_get-get_or}
use Rattle.catalog.specs.Entries.{StandsAt, ids_in}
use Rattle.identity.specs.declared.job_ids.JobId.{JobId}
use Rattle.identity.specs.declared.key.Key.{Key}
use Rattle.held_facts.specs.declared.make_fault.MakeFault.{MakeFault}
use Rattle.held_facts.specs.declared.make_fault.MakeFault.TheVariants as makes
use Rattle.node_state.specs.Making.{IsMade, IsMakeFault}
use Rattle.node_state.specs.States.{State, count_lacked, join, of_fact, of_retirement}
use Rattle.tile_fact.specs.declared.fact.Fact.{Fact}
use Rattle.gossip_core.specs.Networks.{Network, NodeStates, Sent}
use Rattle.gossip_core.specs.Steps.{Accepts, CannotMake, HasNodes, IsDone, IsScheduleFor, IsStepFault, Makes, Refuses, WorldWork, held}
use Rattle.gossip_core.specs.Steps.{no_states, nodes_of, states_at, with_message}
use Rattle.gossip_core.specs.declared.done.Done.TheVariants as does
use Rattle.gossip_core.specs.declared.fault.StepFault.TheVariants as faults
use Rattle.gossip_core.proofs.StateLaws.{states_set}
use Rattle.gossip_events.specs.declared.event.Event.{Event}
use Rattle.gossip_events.specs.declared.event.Event.TheVariants.{Make, Retire, Deliver, Merge}
use Rattle.worlds.specs.Worlds.{HasSchedules}
use Rattle.worlds.specs.inside.Making.{CannotBeMade, IsMadeBy, refusal_of}

pub one_within : (n size : ℕ) → n < size → All (λ k. k < size) (n ∷ [])
one_within n size within zero d inside = within
one_within n size within (suc k) d inside = absurd (omega (arith, inside))

two_within : (m n size : ℕ) → m < size → n < size → All (λ k. k < size) (m ∷ n ∷ [])
two_within m n size one other zero d inside = one
two_within m n size one other (suc zero) d inside = other
two_within m n size one other (suc (suc k)) d inside = absurd (omega (arith, inside))

-- an event of a node that is not there
pub not_there : (u : WorldWork) (v w : Network) (e : Event) (n : ℕ) → v ≡ w → Contains (nodes_of e) n → length v.nodes ≤ n
    → Refuses u w e w faults.NoSuchNode
not_there u v w e n view named past = record {
  first = (named.0, n, named.1, named.2, subst (λ (x : Network). length x.nodes ≤ n) view past);
  unchanged = refl;
}

-- ---- schedules

module _ (u v : WorldWork) (view : v ≡ u) (n job : ℕ) (key : Key) (ids : JobId) (ids_are : ids ≡ ids_in key) (schedules : List (List Bool))
    (within : n < length u.schedules) (of_node : schedules ≡ get_or v.schedules n schedules) (stands : StandsAt v.jobs ids job) where
  node_has : slice_get v.schedules n ≡ Some schedules
  node_has = slice_get-get_or v.schedules n schedules (subst (λ (x : WorldWork). n < length x.schedules) (sym view) within) ∙ ap Some
      (sym of_node)

  -- what is found is the schedule
  pub scheduled : {X : Type 0} (f : X → List Bool) (o : Option X) → option_map f o ≡ slice_get schedules job
      → IfSome o (λ s. IsScheduleFor u n key (f s))
  scheduled f None e = tt
  scheduled f (Some s) e =
      subst (λ (x : WorldWork). IsScheduleFor x n key (f s)) view (record {
        job = job;
        there = subst (λ i. StandsAt v.jobs i job) ids_are stands;
        schedules = schedules;
        of_node = node_has;
        of_job = sym e;
      })

  -- a node with schedules for all jobs has one for each
  pub none_lacking : HasSchedules v → {X : Type 0} (P : Type 0) (f : X → List Bool) (o : Option X)
      → option_map f o ≡ slice_get schedules job
      → IfNone o P
  none_lacking each P f (Some s) e = tt
  none_lacking each P f None e =
      let inside = slice_get_within v.jobs job stands.0 stands.1 in
      let same = each n schedules node_has in
      absurd (none-some _ (e ∙ slice_get-get_or schedules job [] (omega (arith, inside, same))))

-- ---- making

cannot_make : (u : WorldWork) (w : Network) (n : ℕ) (key : Key) (fault : MakeFault) → CannotBeMade u n (held w n) key fault
    → CannotMake u w n key fault
cannot_make u w n key makes.Foreign h = h
cannot_make u w n key makes.NoSuchTile h = h
cannot_make u w n key makes.ScratchTooBig h = h
cannot_make u w n key (makes.NeedMissing need) h = h
cannot_make u w n key (makes.NeedDisputed need) h = h
cannot_make u w n key (makes.NeedMisshapen need) h = h
cannot_make u w n key makes.Memory h = h
cannot_make u w n key makes.Retired h = h

cannot_be_made : (u : WorldWork) (n : ℕ) (s : State) (key : Key) (inlining : List Bool) (fault : MakeFault) → IsScheduleFor u n key inlining
    → IsMakeFault u.jobs s inlining key fault → CannotBeMade u n s key fault
cannot_be_made u n s key inlining makes.Foreign schedule h = h
cannot_be_made u n s key inlining makes.NoSuchTile schedule h = (inlining, schedule, h)
cannot_be_made u n s key inlining makes.ScratchTooBig schedule h = (inlining, schedule, h)
cannot_be_made u n s key inlining (makes.NeedMissing need) schedule h = (inlining, schedule, h)
cannot_be_made u n s key inlining (makes.NeedDisputed need) schedule h = (inlining, schedule, h)
cannot_be_made u n s key inlining (makes.NeedMisshapen need) schedule h = (inlining, schedule, h)
cannot_be_made u n s key inlining makes.Memory schedule h = (inlining, schedule, h)
cannot_be_made u n s key inlining makes.Retired schedule h = (inlining, schedule, h)

makes_by : (u : WorldWork) (w : Network) (n : ℕ) (key : Key) (fact : Fact) → IsMadeBy u n (held w n) key fact → Makes u w n key fact
makes_by u w n key fact is = record { of_key = is.of_key; inlining = is.inlining; schedule = is.schedule; made = is.made }

module _ (u v : WorldWork) (view : v ≡ u) (n : ℕ) (s : State) (key : Key) (inlining : List Bool)
    (schedule : IsScheduleFor u n key inlining) where
  pub made_by : (r : Result Fact MakeFault) → IfOk r (λ fact. fact.key ≡ key) → IfOk r (IsMade v.jobs s inlining)
      → IfOk r (IsMadeBy u n s key)
  made_by (Ok fact) of_key made' =
      record {
        of_key = of_key;
        inlining = inlining;
        schedule = schedule;
        made = subst (λ (x : WorldWork). IsMade x.jobs s inlining fact)
            view made';
      }
  made_by (Err fault) of_key made' = tt

  pub never_made : (r : Result Fact MakeFault) → IfErr r (IsMakeFault v.jobs s inlining key) → IfErr r (CannotBeMade u n s key)
  never_made (Ok fact) h = tt
  never_made (Err fault) h =
      cannot_be_made u n s key inlining fault schedule (subst (λ (x : WorldWork). IsMakeFault x.jobs s inlining key fault) view h)

-- ---- nodes and messages that are looked up

states_there : (nodes : List NodeStates) (n : ℕ) (q : NodeStates) → n < length nodes → q ≡ get_or nodes n q → states_at nodes n ≡ q
states_there nodes n q within is = ap (λ o. unwrap_or o no_states) (slice_get-get_or nodes n q within) ∙ sym is

-- a node that is set to what it was
set_same : (nodes : List NodeStates) (n : ℕ) (q : NodeStates) → n < length nodes → q ≡ get_or nodes n q → slice_set nodes n q ≡ nodes
set_same [] n q within is = absurd (omega (arith, within))
set_same (x ∷ xs) zero q within is = ap (λ y. y ∷ xs) is
set_same (x ∷ xs) (suc n) q within is = ap (λ ys. x ∷ ys) (set_same xs n q (omega (arith, within)) is)

unmade : (u : WorldWork) (v : Network) (n : ℕ) (key : Key) → HasNodes v (Make n key) → (fault : MakeFault) → CannotMake u v n key fault
    → IsStepFault u v (Make n key) (refusal_of fault)
unmade u v n key here makes.Foreign why = (here, (why, λ e. cc))
unmade u v n key here makes.NoSuchTile why = (here, (why, λ e. cc))
unmade u v n key here makes.ScratchTooBig why = (here, (why, λ e. cc))
unmade u v n key here (makes.NeedMissing need) why = (here, (why, λ e. cc))
unmade u v n key here (makes.NeedDisputed need) why = (here, (why, λ e. cc))
unmade u v n key here (makes.NeedMisshapen need) why = (here, (why, λ e. cc))
unmade u v n key here makes.Memory why = (here, tt, λ wrong. wrong)
unmade u v n key here makes.Retired why = (here, (why, λ e. cc))

module _ (u : WorldWork) (v w : Network) (view : v ≡ w) (n : ℕ) (within : n < length v.nodes) where
  here : All (λ i. i < length v.nodes) (n ∷ [])
  here = one_within n (length v.nodes) within

  -- ---- making

  module _ (key : Key) (b q : NodeStates) (node : b ≡ q) (q_is : q ≡ get_or v.nodes n q) where
    held_is : b.held ≡ held v n
    held_is = ap (λ (x : NodeStates). x.held) (node ∙ sym (states_there v.nodes n q within q_is))

    pub not_made : (fault : MakeFault) → CannotBeMade u n b.held key fault → Refuses u w (Make n key) w (refusal_of fault)
    not_made fault why =
        subst (λ x. Refuses u x (Make n key) x (refusal_of fault)) view
        (record {
          first = unmade u v n key here fault (cannot_make u v n key fault (subst (λ s. CannotBeMade u n s key fault) held_is why));
          unchanged = refl;
        })

    pub made : (fact : Fact) (new : Network) → IsMadeBy u n b.held key fact → new ≡ with_message w n (of_fact fact)
        → Accepts u w (Make n key) new
    made fact new is after =
        subst (λ x. new ≡ with_message x n (of_fact fact) → Accepts u x (Make n key) new) view
        (λ same. (here, (fact, makes_by u v n key fact (subst (λ s. IsMadeBy u n s key fact) held_is is), same))) after

  -- ---- retirements

  pub retired : (ids : JobId) (new : Network) → new ≡ with_message w n (of_retirement ids) → Accepts u w (Retire n ids) new
  retired ids new after = subst (λ x. new ≡ with_message x n (of_retirement ids) → Accepts u x (Retire n ids) new) view (λ same. (here, same)) after

  -- ---- deliveries

  module _ (k : ℕ) (a m : Sent) (mail : a ≡ m) (sent : k < length v.messages) (m_is : m ≡ get_or v.messages k m) where
    there : slice_get v.messages k ≡ Some a
    there = slice_get-get_or v.messages k m sent ∙ ap Some (sym m_is ∙ sym mail)

    pub misaddressed : (a.to ≡ n → ⊥) → Refuses u w (Deliver n k) w faults.WrongAddress
    misaddressed other =
        subst (λ x. Refuses u x (Deliver n k) x faults.WrongAddress) view
        (record { first = (here, (a, there, other)); unchanged = refl })

    module _ (b q : NodeStates) (node : b ≡ q) (q_is : q ≡ get_or v.nodes n q) (to : a.to ≡ n) (s : State) where
      abbrev after : Network
      after = record v { nodes = slice_set v.nodes n (record { held = s; kept = b.kept }) }

      b_is : b ≡ get_or v.nodes n b
      b_is = subst (λ x. x ≡ get_or v.nodes n x) (sym node) q_is

      at : b ≡ states_at v.nodes n
      at = node ∙ sym (states_there v.nodes n q within q_is)

      pub delivered : s ≡ join b.held a.state → Accepts u w (Deliver n k) after
      delivered is =
          subst (λ x. Accepts u x (Deliver n k) after) view (
            here,
            (
              a,
              there,
              to,
              λ i. record v {
                nodes = slice_set v.nodes n (record {
                  held = (is ∙ ap (λ (x : NodeStates). join x.held a.state) at) i;
                  kept = (at i).kept;
                });
              },
            ),
          )

      pub new_ones : (count : ℕ) → count ≡ count_lacked b.held s → IsDone w (Deliver n k) after (does.New count)
      new_ones count is =
          subst (λ x. IsDone x (Deliver n k) after (does.New count)) view
          (is ∙ ap (λ (x : NodeStates). count_lacked x.held s) at ∙ ap (λ t. count_lacked (held v n) t) (sym held_set_is))
        where
          held_set_is : held after n ≡ s
          held_set_is =
              ap (λ (x : NodeStates). x.held) (states_set v.nodes n (record { held = s; kept = b.kept }) n within)
              ∙ ap (λ t. (cond t (record { held = s; kept = b.kept }) (states_at v.nodes n)).held) (eq-eqb n n refl)

      pub not_delivered : s ≡ b.held → Refuses u w (Deliver n k) after faults.Memory
      not_delivered is =
          subst (λ x. Refuses u x (Deliver n k) after faults.Memory) view
          (record {
            first = (here, sent, λ wrong. wrong.2 (ap (λ (x : Sent). x.to) (same_Some wrong.0 a (sym wrong.1 ∙ there)) ∙ to));
            unchanged =
                (λ i. record v { nodes = slice_set v.nodes n (record { held = is i; kept = b.kept }) })
                ∙ ap (λ xs. record v { nodes = xs }) (set_same v.nodes n b within b_is);
          })

  -- ---- merges

  module _ (other : ℕ) (there : other < length v.nodes) (o r : NodeStates) (o_is : o ≡ r) (r_is : r ≡ get_or v.nodes other r)
      (b q : NodeStates) (node : b ≡ q) (q_is : q ≡ get_or v.nodes n q) (s : State) where
    abbrev merging : Network
    merging = record v { nodes = slice_set v.nodes n (record { held = s; kept = b.kept }) }

    both : HasNodes v (Merge n other)
    both = two_within n other (length v.nodes) within there

    its : b ≡ states_at v.nodes n
    its = node ∙ sym (states_there v.nodes n q within q_is)

    others : o.held ≡ held v other
    others = ap (λ (x : NodeStates). x.held) (o_is ∙ sym (states_there v.nodes other r there r_is))

    pub merged : s ≡ join b.held o.held → Accepts u w (Merge n other) merging
    merged is =
        subst (λ x. Accepts u x (Merge n other) merging) view (
          both,
          λ i. record v {
            nodes = slice_set v.nodes n (record {
              held = (is ∙ (λ j. join (its j).held (others j))) i;
              kept = (its i).kept;
            });
          },
        )

    pub merged_new : (count : ℕ) → count ≡ count_lacked b.held s → IsDone w (Merge n other) merging (does.New count)
    merged_new count is =
        subst (λ x. IsDone x (Merge n other) merging (does.New count)) view
        (is ∙ ap (λ (x : NodeStates). count_lacked x.held s) its ∙ ap (λ t. count_lacked (held v n) t) (sym held_set_is))
      where
        held_set_is : held merging n ≡ s
        held_set_is =
            ap (λ (x : NodeStates). x.held) (states_set v.nodes n (record { held = s; kept = b.kept }) n within)
            ∙ ap (λ t. (cond t (record { held = s; kept = b.kept }) (states_at v.nodes n)).held) (eq-eqb n n refl)

    pub not_merged : s ≡ b.held → Refuses u w (Merge n other) merging faults.Memory
    not_merged is =
        subst (λ x. Refuses u x (Merge n other) merging faults.Memory) view
        (record {
          first = (both, tt, λ wrong. wrong);
          unchanged =
              (λ i. record v { nodes = slice_set v.nodes n (record { held = is i; kept = b.kept }) })
              ∙ ap (λ xs. record v { nodes = xs })
              (set_same v.nodes n b within (subst (λ x. x ≡ get_or v.nodes n x) (sym node) q_is));
        })
