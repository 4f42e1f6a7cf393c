-- From the plan of a key's tile, and from what is held of its needs, to a fact or to a fault.
use Rattle.std.proofs.Common.{arith, ℕ, ◌≡◌, ◌<◌, ◌≤◌, ◌⊎◌, Bool, List, Some, length, sym, ap, ◌∙◌, subst, inl, inr}
use Rattle.std.specs.List.{flat_map}
use Rattle.std.specs.Prelude.{Contains, slice_get}
use Rattle.std.proofs.lemmas.Bool.{cases_lt, cases_eq}
use Rattle.std.proofs.lemmas.Option.{same_Some, slice_get_within, get_or_from_slice_get, slice_get-get_or}
use Rattle.catalog.specs.Entries.{Entry, IsCatalog, ids_in}
use Rattle.identity.specs.declared.job_ids.JobId.{JobId}
use Rattle.fact_audit.specs.TrueFacts.{BodyIsTrue, IsTrueOf, HasJob, IsTrueFact}
use Rattle.fact_audit.specs.Verdicts.{HasEntry}
use Rattle.fact_store.proofs.KeyLaws.{in_facts_of}
use Rattle.tile_boxes.specs.Costs.{scratch, most_scratch}
use Rattle.tile_boxes.specs.Targets.{Target, target_over}
use Rattle.identity.proofs.KeyLaws.{key_order}
use Rattle.identity.specs.declared.key.Key.{Key}
use Rattle.identity.specs.Keys.{key_cmp}
use Rattle.job.specs.Identity.{HasTileAt}
use Rattle.job.specs.Pipeline.{Pipeline}
use Rattle.overlap_tiles.proofs.KeysRise.{keys_rise}
use Rattle.overlap_tiles.proofs.Lists.{Contains-from_flat_map, Contains-from_map}
use Rattle.overlap_tiles.specs.declared.fault.PlanFault.{PlanFault}
use Rattle.overlap_tiles.specs.declared.fault.PlanFault.TheVariants as plan
use Rattle.overlap_tiles.specs.Needs.{key_of, needs, needed_keys, IsKeyBefore}
use Rattle.overlap_tiles.specs.Plans.{Plan, IsTilePlan, IsPlanFault}
use Rattle.sha2.specs.Sha256.{sha256}
use Rattle.tile_fact.specs.declared.body.Body.{Body}
use Rattle.tile_fact.specs.declared.fact.Fact.{Fact}
use Rattle.held_facts.specs.declared.answers.Known.TheVariants.{Nothing, Disputed}
use Rattle.held_facts.specs.declared.make_fault.MakeFault.{MakeFault}
use Rattle.held_facts.specs.declared.make_fault.MakeFault.TheVariants as fault
use Rattle.held_facts.specs.Answers.{known_of}
use Rattle.held_facts.specs.MakeFaults.{of_plan}
use Rattle.held_facts.specs.Making.{HasTarget, HasTargetIn, needs_for, tiles_in, needed_tiles, IsMisshapen, IsLocalBody, IsMadeOf}
use Rattle.held_facts.specs.Making.{IsMade, AreNeedsTrue, IsFirstUnready, IsMakeFault}
use Rattle.held_facts.specs.inside.Needing.{AreReady, IsStoppedAt, IsNeedsFault}
use Rattle.held_facts.specs.Facts.{FactSet, facts_of}
use Rattle.held_facts.proofs.AskedLaws.{not_below_itself}

listed : {X : Type 0} → (xs : List X) (k : ℕ) (x : X) → slice_get xs k ≡ Some x → Contains xs x
listed xs k x there = (k, slice_get_within xs k x there, get_or_from_slice_get xs k x x there)

module _ (catalog : List Entry) (s : FactSet) (inlining : List Bool) (key : Key) (entry : Entry) (found : HasEntry catalog key entry) where
  in_job : (P : Pipeline → Type 0) → P entry.pipeline → HasJob catalog key P
  in_job P h = record { index = found.0; entry = entry; there = found.1; ids = found.2; holds = h }

  pub true_fact : (body : Body) → BodyIsTrue entry.pipeline key body → IsTrueFact catalog (record { key = key; body = body })
  true_fact body h = in_job (λ job. BodyIsTrue job key body) h

  -- ---- without a plan

  pub no_plan : (why : PlanFault) → IsPlanFault entry.pipeline inlining key.stage key.row key.col why
      → IsMakeFault catalog s inlining key (of_plan why)
  no_plan plan.NoSuchTile h = in_job (λ job. ¬ (HasTileAt job key.stage key.row key.col)) h
  no_plan plan.ScratchTooBig h =
      in_job (λ job. HasTarget job inlining key (λ t. most_scratch < scratch t))
      (record { area = h.area; tile = h.tile; holds = h.reason })
  no_plan plan.Memory h =
      in_job (λ job. HasTarget job inlining key (λ t. Unit {0})) (record { area = h.area; tile = h.tile; holds = tt })

  -- ---- by a plan

  module _ (p : Plan) (is : IsTilePlan (sha256 entry.text) entry.pipeline inlining key.stage key.row key.col p) where
    abbrev target : Target
    target = target_over entry.pipeline inlining key.stage is.area

    in_target : (P : Target → Type 0) → P target → HasTargetIn catalog inlining key P
    in_target P h = in_job (λ job. HasTarget job inlining key P) (record { area = is.area; tile = is.tile; holds = h })

    needs_are : p.needs ≡ needs_for key target
    needs_are = is.plan.plan.needs ∙ ap (λ (ids : JobId). needed_keys ids.program target) found.2

    -- a key before a need stands before it among the needs
    earlier : (place k : ℕ) (need other : Key) → slice_get p.needs place ≡ Some need → slice_get p.needs k ≡ Some other
        → IsKeyBefore other need → k < place
    earlier place k need other there here before =
        elim (cases_lt k place) [ inl less ↦ less | inr past ↦ absurd (by (cases_eq k place) past) ]
      where
        by : (k ≡ place) ⊎ (k ≡ place → ⊥) → place ≤ k → ⊥
        by (inl e) past =
            let same = same_Some other need (sym here ∙ ap (slice_get p.needs) e ∙ there) in
            not_below_itself need (subst (λ (x : Key). IsKeyBefore x need) same before)
        by (inr ne) past =
            let rise = keys_rise (sha256 entry.text) target place k need (omega (arith, past, ne))
            (let inside = slice_get_within p.needs k other here in
            let long = ap length is.plan.plan.needs in omega (arith, inside, long)) in
            let in_list : slice_get (needed_keys (sha256 entry.text) target) place ≡ Some need =
            ap (λ (ks : List Key). slice_get ks place) (sym is.plan.plan.needs) ∙ there in
            let behind : slice_get (needed_keys (sha256 entry.text) target) k ≡ Some other =
            ap (λ (ks : List Key). slice_get ks k) (sym is.plan.plan.needs) ∙ here in
            let after : IsKeyBefore need other =
            (λ i. key_cmp (sym (get_or_from_slice_get (needed_keys (sha256 entry.text) target) place need need in_list) i)
            (sym (get_or_from_slice_get (needed_keys (sha256 entry.text) target) k other need behind) i)) ∙ rise in
            not_below_itself need (key_order.trans need other need after before)

    first_unready : (why : MakeFault) (at : IsStoppedAt s entry.pipeline p.needs why) (need : Key) (Reason : Type 0) → need ≡ at.need
        → Reason → IsFirstUnready s (needs_for key target) target need Reason
    first_unready why at need Reason same reason =
        let there : slice_get p.needs at.place ≡ Some need = at.there ∙ ap Some (sym same) in
        record {
          room = is.plan.fits;
          needed = subst (λ (ks : List Key). Contains ks need) needs_are (listed p.needs at.place need there);
          reason = reason;
          least = λ other asked before.
              let own = subst (λ (ks : List Key). Contains ks other) (sym needs_are) asked in
              let here : slice_get p.needs own.0 ≡ Some other = slice_get-get_or p.needs own.0 other own.1 ∙ ap Some own.2 in
              at.before own.0 other (earlier at.place own.0 need other there here before) here;
        }

    at_need : (why : MakeFault) → IsStoppedAt s entry.pipeline p.needs why → IsMakeFault catalog s inlining key why
    at_need fault.Foreign at = absurd at.reason
    at_need fault.NoSuchTile at = absurd at.reason
    at_need fault.ScratchTooBig at = absurd at.reason
    at_need (fault.NeedMissing need) at =
        in_target (λ t. IsFirstUnready s (needs_for key t) t need (known_of s need ≡ Nothing))
        (first_unready (fault.NeedMissing need) at need (known_of s need ≡ Nothing) at.reason.0
        (subst (λ (k : Key). known_of s k ≡ Nothing) (sym at.reason.0) at.reason.1))
    at_need (fault.NeedDisputed need) at =
        in_target (λ t. IsFirstUnready s (needs_for key t) t need (known_of s need ≡ Disputed))
        (first_unready (fault.NeedDisputed need) at need (known_of s need ≡ Disputed) at.reason.0
        (subst (λ (k : Key). known_of s k ≡ Disputed) (sym at.reason.0) at.reason.1))
    at_need (fault.NeedMisshapen need) at =
        in_target (λ t. IsFirstUnready s (needs_for key t) t need (IsMisshapen s t.job need))
        (first_unready (fault.NeedMisshapen need) at need (IsMisshapen s entry.pipeline need) at.reason.0
        (subst (λ (k : Key). IsMisshapen s entry.pipeline k) (sym at.reason.0) at.reason.1))
    at_need fault.Memory at = in_target (λ t. Unit {0}) tt
    at_need fault.Retired at = absurd at.reason

    pub no_memory : (why : MakeFault) → why ≡ fault.Memory → IsMakeFault catalog s inlining key why
    no_memory why e = subst (IsMakeFault catalog s inlining key) (sym e) (in_target (λ t. Unit {0}) tt)

    pub stopped : (why : MakeFault) → IsNeedsFault s entry.pipeline p.needs why → IsMakeFault catalog s inlining key why
    stopped why h = elim h [ inl memory ↦ no_memory why memory | inr at ↦ at_need why at ]

    pub made : (facts : List Fact) → facts ≡ flat_map (facts_of s) p.needs → AreReady s entry.pipeline p.needs → (body : Body)
        → IsLocalBody target (tiles_in facts) body
        → IsMade catalog s inlining (record { key = key; body = body })
    made facts are ready body local = in_target (λ t. IsMadeOf s (needs_for key t) t body) (record {
      room = is.plan.fits;
      ready = subst (AreReady s entry.pipeline) needs_are ready;
      numbers =
          subst (λ (ks : List Key). IsLocalBody target (needed_tiles s ks) body) needs_are
          (subst (λ (fs : List Fact). IsLocalBody target (tiles_in fs) body) are local);
    })

    -- ---- true facts

    need_ids : (need : Key) → Contains p.needs need → ids_in need ≡ ids_in key
    need_ids need asked =
        let at = Contains-from_map (key_of (sha256 entry.text) entry.pipeline) (needs target) need
        (subst (λ (ks : List Key). Contains ks need) is.plan.plan.needs asked) in
        ap ids_in (sym at.2) ∙ found.2

    pub needed_true : IsCatalog catalog → AreNeedsTrue catalog s inlining key → (f : Fact) → Contains (flat_map (facts_of s) p.needs) f
        → IsTrueOf f entry.pipeline
    needed_true c right f there =
        let at = Contains-from_flat_map (facts_of s) p.needs f there in
        let own = (in_facts_of s at.0 f).0 at.2 in
        let asked : Contains (needs_for key target) f.key =
        subst (λ (ks : List Key). Contains ks f.key) needs_are (subst (Contains p.needs) (sym own.1) at.1) in
        let h = right f own.0 (in_target (λ t. Contains (needs_for key t) f.key) asked) in
        let place = c.apart (ids_in key) h.index found.0 (h.entry, h.there, h.ids ∙ ap ids_in own.1 ∙ need_ids at.0 at.1)
        (entry, found.1, found.2) in
        let same = same_Some h.entry entry (sym h.there ∙ ap (slice_get catalog) place ∙ found.1) in
        subst (λ (e : Entry). IsTrueOf f e.pipeline) same h.holds
