-- A node that holds, of all work tiles of lower stages, true facts can make a work tile that has room.
use Rattle.std.proofs.Common.{ℕ, ◌<◌, ◌≡◌, refl, sym, ap, ◌∙◌, subst, Bool, false, List}
use Rattle.std.specs.Prelude.{◌≢◌, slice_get}
use Rattle.std.specs.List.{Contains}
use Rattle.std.proofs.lemmas.Bool.{true≢false}
use Rattle.std.proofs.lemmas.Option.{same_Some}
use Rattle.catalog.specs.Entries.{Entry, IsCatalog, StandsAt, ids_in, ids_of}
use Rattle.domains.specs.declared.area.Area.{Area}
use Rattle.fact_audit.specs.TrueFacts.{HasJob}
use Rattle.tile_boxes.specs.Costs.{most_scratch, scratch}
use Rattle.tile_boxes.specs.Targets.{target_over}
use Rattle.identity.specs.declared.key.Key.{Key}
use Rattle.job.specs.Answers.{Tile}
use Rattle.job.specs.Identity.{HasTileAt}
use Rattle.job.specs.Pipeline.{Pipeline, rank_of}
use Rattle.job.specs.WellFormed.{IsJob}
use Rattle.held_facts.specs.Answers.{IsNotHeld, known_of}
use Rattle.held_facts.specs.Facts.{FactSet}
use Rattle.held_facts.specs.HeldFacts.{HoldsTrueFacts, IsMisshapen}
use Rattle.held_facts.specs.Making as held_making
use Rattle.held_facts.specs.Making.{HasTarget, HasTargetIn, IsFirstUnready, needs_for}
use Rattle.held_facts.specs.declared.answers.Known.TheVariants as known
use Rattle.held_facts.specs.declared.make_fault.MakeFault.{MakeFault}
use Rattle.held_facts.specs.declared.make_fault.MakeFault.TheVariants as makes
use Rattle.node_state.specs.Making.{IsMakeFault}
use Rattle.node_state.specs.States.{State, retires}
use Rattle.overlap_tiles.proofs.Lists.{Contains-from_map}
use Rattle.overlap_tiles.proofs.NeedsAreExact.{from_needs}
use Rattle.overlap_tiles.proofs.RoomIsExact.{room_is}
use Rattle.overlap_tiles.specs.Needs.{key_of, needed_keys, needs}
use Rattle.overlap_tiles.specs.Work.{IsWork, is_tile_over_scratch_limit}
use Rattle.gossip_core.specs.Finishing.{IsPlanned}
use Rattle.gossip_core.specs.Networks.{Network}
use Rattle.gossip_core.specs.Steps.{CannotMake, IsScheduleFor, WorldWork, held}
use Rattle.gossip_core.proofs.FinishLists.{found_in}
use Rattle.gossip_core.proofs.FinishNeeds.{needed_is_lower, needed_is_work, none_disputed, none_missing, none_misshapen}

module _ (u : WorldWork) (n j : ℕ) (entry : Entry) (inlining : List Bool) (is : IsCatalog u.jobs)
    (planned : IsPlanned u n j entry inlining) where
  abbrev job : Pipeline
  job = entry.pipeline

  abbrev key : Tile → Key
  key t = key_of (ids_of entry).program entry.pipeline t

  -- ---- the job and the schedule are those of the plan

  stands : (t : Tile) → StandsAt u.jobs (ids_in (key t)) j
  stands t = (entry, planned.there, refl)

  of_job : (t : Tile) (P : Pipeline → Type 0) → HasJob u.jobs (key t) P → P job
  of_job t P has =
      let place = is.apart (ids_in (key t)) has.index j (has.entry, has.there, has.ids) (stands t) in
      let same = same_Some has.entry entry (sym has.there ∙ ap (slice_get u.jobs) place ∙ planned.there) in
      subst (λ (e : Entry). P e.pipeline) same has.holds

  of_schedule : (t : Tile) (other : List Bool) → IsScheduleFor u n (key t) other → other ≡ inlining
  of_schedule t other for =
      let place = is.apart (ids_in (key t)) for.job j for.there (stands t) in
      let lists = same_Some for.schedules planned.schedules (sym for.of_node ∙ planned.of_node) in
      same_Some other inlining (sym for.of_job ∙ (λ i. slice_get (lists i) (place i)) ∙ planned.of_job)

  -- ---- no fault

  module _ (s : FactSet) (t : Tile) (good : IsJob entry.pipeline) (right : HoldsTrueFacts u.jobs s) (work : IsWork entry.pipeline inlining t)
      (roomy : is_tile_over_scratch_limit entry.pipeline inlining t ≡ false)
      (lower : (m : Tile) → IsWork entry.pipeline inlining m → rank_of entry.pipeline.stages m.stage < rank_of entry.pipeline.stages t.stage
      → ¬ IsNotHeld s (key_of (ids_of entry).program entry.pipeline m)) where
    -- a need is of the job, and held
    abbrev IsHeldNeed : Key → Type 0
    IsHeldNeed need = (ids_in need ≡ ids_of entry) × ¬ IsNotHeld s need

    held_need : (area : Area) (need : Key) → Contains (needed_keys (ids_of entry).program (target_over job inlining t.stage area)) need
        → IsHeldNeed need
    held_need area need asked =
        let target = target_over job inlining t.stage area in
        let from = Contains-from_map (key_of (ids_of entry).program job) (needs target) need asked in
        let needed = from_needs target from.0 good from.1 in
        let work = needed_is_work job inlining t.stage area from.0 needed in
        let some = lower from.0 work (needed_is_lower job inlining t.stage area from.0 needed good) in
        subst IsHeldNeed from.2 (refl, some)

    no_unready : (need : Key) (Reason : Type 0) → (IsHeldNeed need → Reason → ⊥)
        → HasTargetIn u.jobs inlining (key t) (λ x. IsFirstUnready s (needs_for (key t) x) x need Reason) → ⊥
    no_unready need Reason none has =
        let at = of_job t (λ x. HasTarget x inlining (key t) (λ y. IsFirstUnready s (needs_for (key t) y) y need Reason)) has in
        none (held_need at.area need at.holds.needed) at.holds.reason

    pub no_make_fault : (fault : MakeFault) → fault ≢ makes.Memory → held_making.IsMakeFault u.jobs s inlining (key t) fault → ⊥
    no_make_fault makes.Foreign other none = none j (stands t)
    no_make_fault makes.NoSuchTile other has = of_job t (λ x. ¬ (HasTileAt x t.stage t.row t.col)) has work.tile
    no_make_fault makes.ScratchTooBig other has =
        let at = of_job t (λ x. HasTarget x inlining (key t) (λ y. most_scratch < scratch y)) has in
        true≢false (sym ((room_is job inlining t).1 (record { area = at.area; tile = at.tile; reason = at.holds })) ∙ roomy)
    no_make_fault (makes.NeedMissing need) other has =
        no_unready need (known_of s need ≡ known.Nothing) (λ of none. none_missing s need of.1 none) has
    no_make_fault (makes.NeedDisputed need) other has =
        no_unready need (known_of s need ≡ known.Disputed)
        (λ of two. none_disputed u.jobs entry s is (found_in u.jobs j entry planned.there) right need two) has
    no_make_fault (makes.NeedMisshapen need) other has =
        let at = of_job t
        (λ x. HasTarget x inlining (key t) (λ y. IsFirstUnready s (needs_for (key t) y) y need (IsMisshapen s y.job need))) has in
        none_misshapen u.jobs entry s is (found_in u.jobs j entry planned.there) right need
        (held_need at.area need at.holds.needed).0 at.holds.reason
    no_make_fault makes.Memory other has = other refl
    no_make_fault makes.Retired other has = has

  -- nor one of a state, in which the job is not retired
  module _ (s : State) (t : Tile) (live : retires s (ids_of entry) ≡ false)
      (none : (fault : MakeFault) → fault ≢ makes.Memory → held_making.IsMakeFault u.jobs s.facts inlining (key t) fault → ⊥) where
    pub no_state_fault : (fault : MakeFault) → fault ≢ makes.Memory → IsMakeFault u.jobs s inlining (key t) fault → ⊥
    no_state_fault makes.Foreign other has = none makes.Foreign other has
    no_state_fault makes.NoSuchTile other has = none makes.NoSuchTile other has
    no_state_fault makes.ScratchTooBig other has = none makes.ScratchTooBig other has.1
    no_state_fault (makes.NeedMissing need) other has = none (makes.NeedMissing need) other has.1
    no_state_fault (makes.NeedDisputed need) other has = none (makes.NeedDisputed need) other has.1
    no_state_fault (makes.NeedMisshapen need) other has = none (makes.NeedMisshapen need) other has.1
    no_state_fault makes.Memory other has = other refl
    no_state_fault makes.Retired other has = true≢false (sym has.1 ∙ live)

  -- whatever schedule is named
  by_plan : (w : Network) (t : Tile) (fault : MakeFault)
      → (other : List Bool) × IsScheduleFor u n (key t) other × IsMakeFault u.jobs (held w n) other (key t) fault
      → IsMakeFault u.jobs (held w n) inlining (key t) fault
  by_plan w t fault cannot =
      subst (λ (x : List Bool). IsMakeFault u.jobs (held w n) x (key t) fault) (of_schedule t cannot.0 cannot.1) cannot.2

  pub why_not : (w : Network) (t : Tile) (fault : MakeFault) → CannotMake u w n (key t) fault
      → IsMakeFault u.jobs (held w n) inlining (key t) fault
  why_not w t makes.Foreign cannot = cannot
  why_not w t makes.NoSuchTile cannot = by_plan w t makes.NoSuchTile cannot
  why_not w t makes.ScratchTooBig cannot = by_plan w t makes.ScratchTooBig cannot
  why_not w t (makes.NeedMissing need) cannot = by_plan w t (makes.NeedMissing need) cannot
  why_not w t (makes.NeedDisputed need) cannot = by_plan w t (makes.NeedDisputed need) cannot
  why_not w t (makes.NeedMisshapen need) cannot = by_plan w t (makes.NeedMisshapen need) cannot
  why_not w t makes.Memory cannot = by_plan w t makes.Memory cannot
  why_not w t makes.Retired cannot = by_plan w t makes.Retired cannot
