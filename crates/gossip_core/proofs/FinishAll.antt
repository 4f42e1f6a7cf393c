-- The events that make and deliver what a node lacks of a job, one after another.
use Rattle.std.proofs.Common.{arith, ℕ, suc, ◌<◌, ◌≡◌, ◌⊎◌, inl, inr, refl, sym, ap, ◌∙◌, subst, Bool, true, false, cond, List}
use Rattle.std.proofs.Common.{[], ◌∷◌, map, filter, length}
use Rattle.std.specs.Prelude.{AllPairs, Some, slice_get}
use Rattle.std.specs.List.{Contains}
use Rattle.catalog.specs.Entries.{Entry, IsCatalog, ids_in, ids_of}
use Rattle.domains.proofs.PairLists.{Contains-cases, Contains-here}
use Rattle.tile_boxes.proofs.Lists.{AllPairs-tail}
use Rattle.identity.specs.declared.key.Key.{Key}
use Rattle.job.specs.Answers.{Tile}
use Rattle.job.specs.Pipeline.{Pipeline}
use Rattle.job.specs.WellFormed.{IsJob}
use Rattle.held_facts.specs.Answers.{IsNotHeld}
use Rattle.held_facts.specs.Facts as facts
use Rattle.held_facts.specs.Facts.{FactSet}
use Rattle.held_facts.specs.HeldAnswers.{lacks}
use Rattle.tile_fact.specs.declared.fact.Fact.{Fact}
use Rattle.node_state.specs.States.{retires}
use Rattle.overlap_tiles.specs.Needs.{key_of}
use Rattle.overlap_tiles.specs.Work.{IsWork, IsWorkedBefore, is_tile_over_scratch_limit}
use Rattle.gossip_events.specs.declared.event.Event.{Event}
use Rattle.gossip_events.specs.declared.event.Event.TheVariants.{Make, Deliver}
use Rattle.gossip_core.specs.Finishing.{AllAccepted, IsPlanned, NoneRefused, makings}
use Rattle.gossip_core.specs.Histories.{IsRefused}
use Rattle.gossip_core.specs.Networks.{Network}
use Rattle.gossip_core.specs.Steps.{Accepts, WorldWork, held}
use Rattle.gossip_core.specs.Truths.{AllTrue}
use Rattle.gossip_core.proofs.FinishEvents.{IsMadeNext, delivery_goes, gained, made_next, make_goes, message_there, told}
use Rattle.gossip_core.proofs.FinishFaults.{no_make_fault, no_state_fault, why_not}
use Rattle.gossip_core.proofs.FinishLists.{held_on, in_none, in_rest, not_lacked}
use Rattle.gossip_core.proofs.FinishNeeds.{none_lower}

module _ (u : WorldWork) (n j : ℕ) (entry : Entry) (inlining : List Bool) (is : IsCatalog u.jobs) (good : IsJob entry.pipeline)
    (planned : IsPlanned u n j entry inlining)
    (keeps : (w new : Network) (e : Event) → AllTrue u.jobs w → Accepts u w e new → AllTrue u.jobs new)
    (first : FactSet)
    (roomy : (t : Tile) → IsWork entry.pipeline inlining t
    → lacks first (key_of (ids_of entry).program entry.pipeline t) ≡ true → is_tile_over_scratch_limit entry.pipeline inlining t ≡ false) where
  abbrev job : Pipeline
  job = entry.pipeline

  abbrev key : Tile → Key
  key t = key_of (ids_of entry).program entry.pipeline t

  abbrev pub Has : Network → Tile → Type 0
  Has w t = ¬ IsNotHeld (held w n).facts (key_of (ids_of entry).program entry.pipeline t)

  -- no fact of the job is lost from the one set to the other
  abbrev pub IsGrown : FactSet → FactSet → Type 0
  IsGrown s t = (f : Fact) → ids_in f.key ≡ ids_of entry → facts.holds s f ≡ true → facts.holds t f ≡ true

  -- all is true, the job is not retired, and each work tile is held or among these, which stand in dependence order; what was held at first is held still
  pub record IsUnderWay (w : Network) (ts : List Tile) : Type 0 where
    pub truth : AllTrue u.jobs w
    pub here : n < length w.nodes
    pub live : retires (held w n) (ids_of entry) ≡ false
    pub grown : IsGrown first (held w n).facts
    pub work : (t : Tile) → Contains ts t → IsWork entry.pipeline inlining t
    pub order : AllPairs (IsWorkedBefore entry.pipeline) ts
    pub held_or_left : (t : Tile) → IsWork entry.pipeline inlining t → Has w t ⊎ Contains ts t

  -- the events are not refused, and then all work tiles are held
  abbrev pub Finishes : Network → List Event → Type 0
  Finishes w events =
      NoneRefused u w events
      × ((new : Network) → AllAccepted u w events new → (t : Tile) → IsWork entry.pipeline inlining t → Has new t)

  -- the first tile is held, and the rest is left
  onward : (w after : Network) (t : Tile) (ts : List Tile) → IsUnderWay w (t ∷ ts) → AllTrue u.jobs after
      → length after.nodes ≡ length w.nodes → retires (held after n) (ids_of entry) ≡ false
      → IsGrown (held w n).facts (held after n).facts → Has after t → IsUnderWay after ts
  onward w after t ts under truth nodes live more has = record {
    truth = truth;
    here = (let low = under.here in omega arith);
    live = live;
    grown = λ f of h. more f of (under.grown f of h);
    work = λ m later. under.work m (in_rest t ts m later);
    order = AllPairs-tail (IsWorkedBefore job) t ts under.order;
    held_or_left = λ m work. elim (under.held_or_left m work) [
      | inl some ↦ inl (held_on (held w n).facts (held after n).facts (key m) (λ f own. more f (ap ids_in own)) some)
      | inr left ↦ elim (Contains-cases t ts m left) [ inl same ↦ inl (subst (Has after) same has) | inr later ↦ inr later ]
    ];
  }

  -- nothing forbids a making of the first tile
  can_make : (w : Network) (t : Tile) (ts : List Tile) → IsUnderWay w (t ∷ ts) → lacks first (key t) ≡ true
      → ¬ IsRefused u w (Make n (key t))
  can_make w t ts under lacked =
      let work = under.work t (Contains-here t ts) in
      make_goes u n (key t) w under.here
      (λ fault other cannot. no_state_fault u n j entry inlining is planned (held w n) t under.live
      (no_make_fault u n j entry inlining is planned (held w n).facts t good (under.truth.holds n) work
      (roomy t work lacked)
      (λ m lower low. elim (under.held_or_left m lower) [
        | inl some ↦ some
        | inr left ↦ absurd (none_lower job t ts m under.order left low)
      ]))
      fault other (why_not u n j entry inlining is planned w t fault cannot))

  -- a lacked tile is made and delivered
  one_made : (w : Network) (sent : ℕ) (t : Tile) (ts : List Tile) (rest : List Event) → sent ≡ length w.messages → IsUnderWay w (t ∷ ts)
      → lacks first (key t) ≡ true
      → ((after : Network) → suc sent ≡ length after.messages → IsUnderWay after ts → Finishes after rest)
      → Finishes w (Make n (key t) ∷ Deliver n sent ∷ rest)
  one_made w sent t ts rest count under lacked further = (
    (
      can_make w t ts under lacked,
      λ next ok. (
        delivery_goes u n (key t) next sent (told n (made next ok).fact) (here next ok) (there next ok) refl,
        λ after goes. (finish next after ok goes).0,
      ),
    ),
    λ new all. (finish all.0 all.2.0 all.1 all.2.1).1 new all.2.2,
  )
    where
      made : (next : Network) → Accepts u w (Make n (key t)) next → IsMadeNext u n (key t) w next
      made next ok = made_next u n (key t) w next ok

      here : (next : Network) → Accepts u w (Make n (key t)) next → n < length next.nodes
      here next ok = let same = ap length (made next ok).nodes in let low = under.here in omega arith

      there : (next : Network) (ok : Accepts u w (Make n (key t)) next)
          → slice_get next.messages sent ≡ Some (told n (made next ok).fact)
      there next ok = ap (slice_get next.messages) count ∙ message_there u n (key t) w next (made next ok)

      finish : (next after : Network) → Accepts u w (Make n (key t)) next → Accepts u next (Deliver n sent) after → Finishes after rest
      finish next after ok goes =
          let gain = gained u n (key t) w next after under.here ok (subst (λ k. Accepts u next (Deliver n k) after) count goes) in
          further after (ap suc count ∙ sym gain.messages)
          (onward w after t ts under
          (keeps next after (Deliver n sent) (keeps w next (Make n (key t)) under.truth ok) goes) gain.nodes gain.live gain.grown gain.has)

  -- one that was held at first is passed over
  one_held : (w : Network) (t : Tile) (ts : List Tile) → IsUnderWay w (t ∷ ts) → lacks first (key t) ≡ false → IsUnderWay w ts
  one_held w t ts under some =
      onward w w t ts under under.truth refl under.live (λ f of h. h)
      (held_on first (held w n).facts (key t) (λ f own. under.grown f (ap ids_in own)) (not_lacked first (key t) some))

  pub finishes : (ts : List Tile) (w : Network) (sent : ℕ) → sent ≡ length w.messages → IsUnderWay w ts
      → Finishes w (makings n sent (filter (lacks first) (map key ts)))
  finishes [] w sent count under = (
    tt,
    λ new same t work. elim (under.held_or_left t work) [
      | inl some ↦ subst (λ (v : Network). Has v t) (sym same) some
      | inr left ↦ absurd (in_none t left)
    ],
  )
  finishes (t ∷ ts) w sent count under =
      elim (lacks first (key t)) as (λ b. lacks first (key t) ≡ b
      → Finishes w (makings n sent (cond b (key t ∷ filter (lacks first) (map key ts)) (filter (lacks first) (map key ts))))) [
        | true ↦ λ lacked.
            one_made w sent t ts (makings n (suc sent) (filter (lacks first) (map key ts))) count under lacked
            (λ after more on. finishes ts after (suc sent) more on)
        | false ↦ λ some. finishes ts w sent count (one_held w t ts under some)
      ] refl
