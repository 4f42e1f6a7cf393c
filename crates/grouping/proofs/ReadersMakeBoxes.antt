-- What a function's readers demand of it makes its box.
use Rattle.std.proofs.Common.{ℕ, ◌<◌, arith, ◌≡◌, nat_eq, Bool, true, false, Option, Some, None, List, [], ◌∷◌, ◌++◌, filter}
use Rattle.std.proofs.Common.{length, refl, sym, ap, ◌∙◌, subst}
use Rattle.std.specs.Prelude.{All, slice_get, slice_set, ◌||◌, if◌then◌else◌}
use Rattle.std.specs.List.{flat_map, fold, list_any, list_all}
use Rattle.std.proofs.lemmas.List.{length-set, get_or-set_same}
use Rattle.std.specs.Option.{option_map_or}
use Rattle.std.proofs.lemmas.Bool.{eqb-true, or_parts}
use Rattle.std.proofs.lemmas.List.Elements.{All-nil, All-cons, All-head, All-tail, All-weaker, filter_passes}
use Rattle.std.proofs.lemmas.List.Sums.{AllPass-from_list_all}
use Rattle.domains.specs.declared.area.Area.{Area}
use Rattle.job.specs.Pipeline.{Stage, Pipeline, rank_of}
use Rattle.job.specs.Reads.{Read, stage_read, reads_of}
use Rattle.job.specs.WellFormed.{IsStage, IsJob}
use Rattle.job.proofs.Solving.{ranked_is}
use Rattle.job.proofs.Unrolling.{reads_fall}
use Rattle.tile_boxes.specs.Order.{backward}
use Rattle.tile_boxes.specs.Schedules.{is_inlined}
use Rattle.tile_boxes.specs.Demands.{Demand, grown_by, hull_of_all, areas_of}
use Rattle.tile_boxes.specs.Targets.{Target, IsTarget, region_by, demands_by, cut_to, box, region}
use Rattle.tile_boxes.specs.Walks.{InDomainRanges, demanded_all, cut_hull}
use Rattle.grouping.specs.Greedy.{is_reader_of_stage, readers, Grouping, group, find_common_group}
use Rattle.tile_boxes.proofs.AreasMeet.{near_subarea}
use Rattle.tile_boxes.proofs.BoxesLieInDomains.{box_inside}
use Rattle.tile_boxes.proofs.DemandsFall.{OfReads, none_of, of_stage}
use Rattle.tile_boxes.proofs.BoxesFollowTheRule.{areas_of-append, box_follows}
use Rattle.tile_boxes.proofs.AloneTakesNone.{out_of_target, uncut}
use Rattle.tile_boxes.proofs.WalksGiveBoxes.{hull_after}

-- ---- a stage that does not read g demands nothing of it

not_read : (g : ℕ) (xs : List Read) → list_any (λ x. nat_eq (stage_read x) g) xs ≡ false → OfReads (λ h. nat_eq h g ≡ false) xs
not_read g [] e = All-nil (λ (x : Read). nat_eq (stage_read x) g ≡ false)
not_read g (x ∷ xs) e =
    let both = or_parts (nat_eq (stage_read x) g) (list_any (λ x. nat_eq (stage_read x) g) xs) e in
    All-cons (λ (x : Read). nat_eq (stage_read x) g ≡ false) x xs both.0 (not_read g xs both.1)

pub none_unread : (t : Target) (boxes : ℕ → Option Area) (g r : ℕ) → is_reader_of_stage t.job g r ≡ false → areas_of g (demands_by t boxes r) ≡ []
none_unread t boxes g r e =
    none_of (λ h. nat_eq h g ≡ false) g (demands_by t boxes r) (λ h other. other)
    (of_stage (λ h. nat_eq h g ≡ false) (slice_get t.job.stages r) (region_by t boxes r)
    (λ s is. not_read g (reads_of s.body)
    (ap (λ (o : Option Stage). list_any (λ x. nat_eq (stage_read x) g) (option_map_or (λ s. reads_of s.body) o [])) (sym is) ∙ e)))

-- ---- so the readers' demands alone make the box

kept_areas : (D : ℕ → List Demand) (g : ℕ) (p : ℕ → Bool) → ((r : ℕ) → p r ≡ false → areas_of g (D r) ≡ []) → (rs : List ℕ)
    → areas_of g (flat_map D rs) ≡ areas_of g (flat_map D (filter p rs))
kept_areas D g p none [] = refl
kept_areas D g p none (r ∷ rs) =
    areas_of-append g (D r) (flat_map D rs) ∙ ap (λ xs. areas_of g (D r) ++ xs) (kept_areas D g p none rs) ∙ by (p r) refl
  where
    by : (b : Bool) → p r ≡ b
        → areas_of g (D r) ++ areas_of g (flat_map D (filter p rs)) ≡ areas_of g (flat_map D (if b then r ∷ filter p rs else filter p rs))
    by true e = sym (areas_of-append g (D r) (flat_map D (filter p rs)))
    by false e = ap (λ xs. xs ++ areas_of g (flat_map D (filter p rs))) (none r e)

pub box_of_readers : (t : Target) (g : ℕ) → IsJob t.job
    → box t g ≡ cut_to (slice_get t.job.stages g) (hull_of_all (areas_of g (flat_map (demands_by t (box t)) (readers t.job g))))
box_of_readers t g job =
    box_follows t g (ranked_is t.job job)
    ∙ ap (λ xs. cut_to (slice_get t.job.stages g) (hull_of_all xs))
    (kept_areas (demands_by t (box t)) g (is_reader_of_stage t.job g) (none_unread t (box t) g) (backward t.job.stages))

-- ---- without a reader in the target there is no box

none_of_them : (D : ℕ → List Demand) (g : ℕ) (rs : List ℕ) → All (λ r. areas_of g (D r) ≡ []) rs → areas_of g (flat_map D rs) ≡ []
none_of_them D g [] none = refl
none_of_them D g (r ∷ rs) none =
    areas_of-append g (D r) (flat_map D rs)
    ∙ ap (λ xs. xs ++ areas_of g (flat_map D rs)) (All-head (λ r. areas_of g (D r) ≡ []) r rs none)
    ∙ none_of_them D g rs (All-tail (λ r. areas_of g (D r) ≡ []) r rs none)

pub no_box : (t : Target) (g : ℕ) → IsJob t.job → All (λ r. region t r ≡ None) (readers t.job g) → box t g ≡ None
no_box t g job out =
    box_of_readers t g job
    ∙ ap (λ xs. cut_to (slice_get t.job.stages g) (hull_of_all xs)) (none_of_them (demands_by t (box t)) g (readers t.job g)
    (All-weaker (λ r. region t r ≡ None) (λ r. areas_of g (demands_by t (box t) r) ≡ []) (λ r e. out_of_target t (box t) g r e)
    (readers t.job g) out))
    ∙ uncut (slice_get t.job.stages g)

-- the hull after the readers have demanded, cut to the domain, is the box, whatever was demanded of others before
pub cut_is_box : (t : Target) (g : ℕ) (hulls : List (Option Area)) → IsJob t.job → g < length hulls
    → cut_hull t.job.stages (demanded_all (slice_set hulls g None) (flat_map (demands_by t (box t)) (readers t.job g))) g ≡ box t g
cut_is_box t g hulls job there =
    let demands = flat_map (demands_by t (box t)) (readers t.job g) in
    let kept = length-set hulls g None in
    let there_still : g < length (slice_set hulls g None) = omega arith in
    ap (cut_to (slice_get t.job.stages g)) (hull_after demands (slice_set hulls g None) g there_still
    ∙ ap (λ h. fold grown_by h (areas_of g demands)) (get_or-set_same hulls g None None there)) ∙ sym (box_of_readers t g job)

-- ---- a reader has a greater rank

behind : (stages : List Stage) (g n : ℕ) (xs : List Read) → list_any (λ x. nat_eq (stage_read x) g) xs ≡ true
    → All (λ x. rank_of stages (stage_read x) < n) xs → rank_of stages g < n
behind stages g n [] e falls = absurd (cc)
behind stages g n (x ∷ xs) e falls =
    by (nat_eq (stage_read x) g) refl e (All-head (λ x. rank_of stages (stage_read x) < n) x xs falls)
    (λ k. behind stages g n xs k (All-tail (λ x. rank_of stages (stage_read x) < n) x xs falls))
  where
    by : (b : Bool) → nat_eq (stage_read x) g ≡ b → (b || list_any (λ x. nat_eq (stage_read x) g) xs) ≡ true
        → rank_of stages (stage_read x) < n → (list_any (λ x. nat_eq (stage_read x) g) xs ≡ true → rank_of stages g < n)
        → rank_of stages g < n
    by true is k first later = subst (λ h. rank_of stages h < n) (eqb-true (stage_read x) g is) first
    by false is k first later = later k

pub reader_is_behind : (job : Pipeline) (g r : ℕ) → IsJob job → is_reader_of_stage job g r ≡ true → rank_of job.stages g < rank_of job.stages r
reader_is_behind job g r is e = by (slice_get job.stages r) refl e
  where
    by : (o : Option Stage) → slice_get job.stages r ≡ o
        → list_any (λ x. nat_eq (stage_read x) g) (option_map_or (λ (s : Stage). reads_of s.body) o []) ≡ true
        → rank_of job.stages g < rank_of job.stages r
    by None there k = absurd (cc)
    by (Some s) there k =
        behind job.stages g (rank_of job.stages r) (reads_of s.body) k (reads_fall job.stages (ranked_is job is) r s there)

pub readers_read : (job : Pipeline) (g : ℕ) → All (λ r. is_reader_of_stage job g r ≡ true) (readers job g)
readers_read job g = filter_passes (is_reader_of_stage job g) (backward job.stages)

-- ---- boxes and regions lie near 0

near_domain : (t : Target) (g : ℕ) (s : Stage) → IsJob t.job → slice_get t.job.stages g ≡ Some s → InDomainRanges s.domain
near_domain t g s job is = let stage : IsStage t.job s = job.stages g s is in record { rows = stage.rows; cols = stage.cols }

pub near_box : (t : Target) (g : ℕ) (s : Stage) (a : Area) → IsJob t.job → slice_get t.job.stages g ≡ Some s → box t g ≡ Some a
    → InDomainRanges a
near_box t g s a job is there =
    let inside = box_inside t g s a job is there in near_subarea a s.domain (near_domain t g s job is) inside.0 inside.1

-- what has a box is there
near_any_box : (t : Target) (g : ℕ) (a : Area) → IsJob t.job → box t g ≡ Some a → InDomainRanges a
near_any_box t g a job there = by (slice_get t.job.stages g) refl
  where
    hull : Option Area
    hull = hull_of_all (areas_of g (flat_map (demands_by t (box t)) (readers t.job g)))

    by : (o : Option Stage) → slice_get t.job.stages g ≡ o → InDomainRanges a
    by None is = let none : None ≡ Some a = sym (box_of_readers t g job ∙ ap (λ o. cut_to o hull) is) ∙ there in absurd (cc)
    by (Some s) is = near_box t g s a job is there

pub near_region : (t : Target) (g : ℕ) (a : Area) → IsJob t.job → IsTarget t → region t g ≡ Some a → InDomainRanges a
near_region t g a job target there = by (nat_eq g t.stage) there
  where
    inlined : (b : Bool) → (if b then box t g else None) ≡ Some a → InDomainRanges a
    inlined true k = near_any_box t g a job k
    inlined false k = absurd (cc)

    by : (b : Bool) → (if b then Some t.region else (if is_inlined t.inlining g then box t g else None)) ≡ Some a → InDomainRanges a
    by true k =
        let whole : t.region ≡ a = cc in
        subst InDomainRanges whole
        (near_subarea t.region target.owner.domain (near_domain t t.stage target.owner job target.there) target.area target.inside)
    by false k = inlined (is_inlined t.inlining g) k

-- ---- groups

-- stages with a common group have that group
pub group_shared : (c : Grouping) (rs : List ℕ) (h : ℕ) → find_common_group c rs ≡ Some h → All (λ r. group c r ≡ h) rs
group_shared c [] h e = All-nil (λ r. group c r ≡ h)
group_shared c (r ∷ rs) h e = by (list_all (λ q. nat_eq (group c q) (group c r)) rs) refl e
  where
    by : (b : Bool) → list_all (λ q. nat_eq (group c q) (group c r)) rs ≡ b → (if b then Some (group c r) else None) ≡ Some h
        → All (λ r. group c r ≡ h) (r ∷ rs)
    by true same k =
        let first : group c r ≡ h = cc in
        All-cons (λ r. group c r ≡ h) r rs first
        (All-weaker (λ q. nat_eq (group c q) (group c r) ≡ true) (λ r. group c r ≡ h) (λ q e. eqb-true (group c q) (group c r) e ∙ first) rs
        (AllPass-from_list_all (λ q. nat_eq (group c q) (group c r)) rs same))
    by false same k = absurd (cc)
