-- Boxes and regions are areas that lie in the domains.
use Rattle.std.proofs.Common.{ℕ, ◌≡◌, arith, nat_eq, Bool, true, false, Option, Some, None, List, [], ◌∷◌, ◌+◌, refl, sym, ap, ◌∙◌, subst}
use Rattle.std.specs.Prelude.{All, slice_get, not, if◌then◌else◌}
use Rattle.std.specs.List.{flat_map}
use Rattle.std.specs.Option.{option_map_or}
use Rattle.std.proofs.lemmas.Bool.{and_parts}
use Rattle.std.proofs.lemmas.List.Elements.{All-nil, All-cons, All-append}
use Rattle.domains.specs.Area.{IsArea, IsSubarea, point_count}
use Rattle.domains.specs.declared.area.Area.{Area}
use Rattle.job.specs.Pipeline.{Stage, Pipeline}
use Rattle.job.specs.WellFormed.{IsStage, IsJob}
use Rattle.job.proofs.Solving.{ranked_is}
use Rattle.tile_boxes.specs.Order.{order_stages_by_rank}
use Rattle.tile_boxes.specs.Schedules.{is_inlined, is_function_body, is_function_stage, all_stored}
use Rattle.tile_boxes.specs.Demands.{hull_of_all, areas_of}
use Rattle.tile_boxes.specs.Targets.{Target, IsTarget, IsListed, all_demands_by}
use Rattle.tile_boxes.specs.Targets.{cut_to, box, region, with_number, is_function_other_than_target, numbered_box, boxes}
use Rattle.tile_boxes.specs.Costs.{scratch, points}
use Rattle.tile_boxes.specs.Walks.{InDomainRanges}
use Rattle.tile_boxes.proofs.AreasMeet.{near_meet}
use Rattle.tile_boxes.proofs.BoxesHoldWhatIsRead.{cut_inside, region_inside}
use Rattle.tile_boxes.proofs.BoxesFollowTheRule.{box_follows}
use Rattle.tile_boxes.proofs.AskedIsSchedule.{none_inlined, none_takes_none}
use Rattle.tile_boxes.proofs.CostsAddUp.{points_is}

abbrev pub InDomain : Stage → Area → Type 0
InDomain s a = IsArea a × IsSubarea a s.domain

cut_near : (o : Option Stage) (s : Stage) (hull : Option Area) (a : Area) → InDomainRanges s.domain → o ≡ Some s → cut_to o hull ≡ Some a
    → InDomainRanges a
cut_near None s hull a near is cut = absurd (cc)
cut_near (Some p) s None a near is cut = absurd (cc)
cut_near (Some p) s (Some b) a near is cut =
    let domain : s ≡ p = cc in
    near_meet b p.domain a (subst (λ (x : Stage). InDomainRanges x.domain) domain near) cut

pub box_inside : (t : Target) (g : ℕ) (s : Stage) (a : Area) → IsJob t.job → slice_get t.job.stages g ≡ Some s → box t g ≡ Some a
    → InDomain s a
box_inside t g s a job is there =
    let stage : IsStage t.job s = job.stages g s is in
    let hull = hull_of_all (areas_of g (all_demands_by t (box t))) in
    let cut : cut_to (slice_get t.job.stages g) hull ≡ Some a = sym (box_follows t g (ranked_is t.job job)) ∙ there in
    let near = cut_near (slice_get t.job.stages g) s hull a (record { rows = stage.rows; cols = stage.cols }) is cut in (
      record { rows = near.rows.span; cols = near.cols.span },
      λ r c h. cut_inside (slice_get t.job.stages g) s hull a r c is cut h,
    )

pub region_in_domain : (t : Target) (g : ℕ) (s : Stage) (a : Area) → IsJob t.job → IsTarget t → slice_get t.job.stages g ≡ Some s
    → region t g ≡ Some a → InDomain s a
region_in_domain t g s a job target is there =
    (by (nat_eq g t.stage) there, λ r c h. region_inside t g s a r c (ranked_is t.job job) target is there h)
  where
    inlined : (b : Bool) → (if b then box t g else None) ≡ Some a → IsArea a
    inlined true k = (box_inside t g s a job is k).0
    inlined false k = absurd (cc)

    by : (b : Bool) → (if b then Some t.region else (if is_inlined t.inlining g then box t g else None)) ≡ Some a → IsArea a
    by true k = let whole : t.region ≡ a = cc in subst IsArea whole target.area
    by false k = inlined (is_inlined t.inlining g) k

-- ---- what is listed

All-flat_map : {X Y : Type 0} → (P : Y → Type 0) (f : X → List Y) (xs : List X) → ((x : X) → All P (f x)) → All P (flat_map f xs)
All-flat_map P f [] each = All-nil P
All-flat_map P f (x ∷ xs) each = All-append P (f x) (flat_map f xs) (each x) (All-flat_map P f xs each)

-- a function is a stage
pub there_is : (job : Pipeline) (g : ℕ) → is_function_stage job g ≡ true → (s : Stage) × (slice_get job.stages g ≡ Some s)
there_is job g e = by (slice_get job.stages g) refl e
  where
    by : (o : Option Stage) → slice_get job.stages g ≡ o → option_map_or (λ s. is_function_body s.body) o false ≡ true
        → (s : Stage) × (slice_get job.stages g ≡ Some s)
    by None is k = absurd (cc)
    by (Some s) is k = (s, is)

listed_one : (t : Target) (g : ℕ) → IsJob t.job → All (IsListed t) (numbered_box t g)
listed_one t g job = by (is_function_other_than_target t g) refl
  where
    with_box : (o : Option Area) → is_function_stage t.job g ≡ true → box t g ≡ o → All (IsListed t) (with_number g o)
    with_box None e is = All-nil (IsListed t)
    with_box (Some a) e is =
        let owner = there_is t.job g e in
        let inside = box_inside t g owner.0 a job owner.1 is in
        All-cons (IsListed t) (g, a) []
        (record { owner = owner.0; there = owner.1; function = e; is = is; area = inside.0; inside = inside.1 }) (All-nil (IsListed t))

    by : (b : Bool) → is_function_other_than_target t g ≡ b → All (IsListed t) (if b then with_number g (box t g) else [])
    by true e = with_box (box t g) (and_parts (is_function_stage t.job g) (not (nat_eq g t.stage)) e).0 refl
    by false e = All-nil (IsListed t)

pub all_listed : (t : Target) → IsJob t.job → All (IsListed t) (boxes t)
all_listed t job = All-flat_map (IsListed t) (numbered_box t) (order_stages_by_rank t.job.stages) (λ g. listed_one t g job)

-- ---- where nothing is inlined

pub no_scratch : (t : Target) → t.inlining ≡ all_stored t.job → scratch t ≡ 0
no_scratch t is = none_takes_none t (λ g. ap (λ inlining. is_inlined inlining g) is ∙ none_inlined t.job.stages g)

pub own_points : (t : Target) → t.inlining ≡ all_stored t.job → points t ≡ point_count t.region
own_points t is =
    points_is t ∙ ap (λ n. n + point_count t.region) (no_scratch t is)
    ∙ (let e : 0 + point_count t.region ≡ point_count t.region = omega arith in e)
