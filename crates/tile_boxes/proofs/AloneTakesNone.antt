-- A stage that reads nothing that is inlined takes no scratch memory.
use Rattle.std.proofs.Common.{ℕ, zero, suc, ◌+◌, arith, ◌≡◌, nat_eq, Bool, true, false, ◌&&◌, not, Option, Some, None, List, []}
use Rattle.std.proofs.Common.{◌∷◌, ◌++◌, map, refl, ap, sym, subst, ◌∙◌}
use Rattle.std.specs.Prelude.{slice_get, if◌then◌else◌}
use Rattle.std.specs.List.{flat_map, sum}
use Rattle.std.specs.Option.{option_map_or}
use Rattle.std.proofs.lemmas.Bool.{false≢true, not-true}
use Rattle.std.proofs.lemmas.Bool.Decides.{nat_tests}
use Rattle.std.proofs.lemmas.List.Sums.{AllPass-from_list_all}
use Rattle.domains.specs.Area.{point_count}
use Rattle.domains.specs.declared.area.Area.{Area}
use Rattle.job.specs.Pipeline.{Stage}
use Rattle.job.specs.Reads.{Read, stage_read, reads_of}
use Rattle.tile_boxes.specs.Schedules.{is_inlined, is_function_stage}
use Rattle.tile_boxes.specs.Order.{greatest_rank, order_stages_by_rank, backward}
use Rattle.tile_boxes.specs.Demands.{hull_of_all, areas_of}
use Rattle.tile_boxes.specs.Targets.{Target, region_by, stage_demands, demands_by, cut_to, box_within, box}
use Rattle.tile_boxes.specs.Costs.{scratch}
use Rattle.tile_boxes.specs.Tallies.{count_points_of_inlined_stage_or_zero, has_only_stored_reads}
use Rattle.tile_boxes.proofs.DemandsFall.{OfReads, none_of, of_stage}
use Rattle.tile_boxes.proofs.BoxesFollowTheRule.{areas_of-append}
use Rattle.tile_boxes.proofs.CostsAddUp.{scratch_is, sum_cons}

-- the target reads nothing that is inlined
abbrev IsAlone : Target → Type 0
IsAlone t = (s : Stage) → slice_get t.job.stages t.stage ≡ Some s → OfReads (λ h. is_inlined t.inlining h ≡ false) (reads_of s.body)

differ : (inlining : List Bool) (g h : ℕ) → is_inlined inlining g ≡ true → is_inlined inlining h ≡ false → nat_eq h g ≡ false
differ inlining g h inlined stored = by (nat_eq h g) refl
  where
    by : (b : Bool) → nat_eq h g ≡ b → nat_eq h g ≡ false
    by false e = e
    by true e = let same : h ≡ g = grind (arith, nat_tests) in absurd (false≢true (sym stored ∙ ap (is_inlined inlining) same ∙ inlined))

pub out_of_target : (t : Target) (boxes : ℕ → Option Area) (g r : ℕ) → region_by t boxes r ≡ None → areas_of g (demands_by t boxes r) ≡ []
out_of_target t boxes g r out = by (slice_get t.job.stages r) ∙ refl
  where
    by : (o : Option Stage) → areas_of g (stage_demands o (region_by t boxes r)) ≡ []
    by None = refl
    by (Some s) = ap (λ a. areas_of g (stage_demands (Some s) a)) out

none_demanded : (t : Target) (boxes : ℕ → Option Area) (g : ℕ) → IsAlone t → is_inlined t.inlining g ≡ true
    → ((r : ℕ) → is_inlined t.inlining r ≡ true → nat_eq r t.stage ≡ false → boxes r ≡ None) → (r : ℕ) → areas_of g
    (demands_by t boxes r) ≡ []
none_demanded t boxes g alone inlined none r = by (nat_eq r t.stage) refl (is_inlined t.inlining r) refl
  where
    by : (b : Bool) → nat_eq r t.stage ≡ b → (c : Bool) → is_inlined t.inlining r ≡ c → areas_of g (demands_by t boxes r) ≡ []
    by true e c f =
        let same : r ≡ t.stage = grind (arith, nat_tests) in
        none_of (λ h. is_inlined t.inlining h ≡ false) g (demands_by t boxes r) (λ h stored. differ t.inlining g h inlined stored)
        (of_stage (λ h. is_inlined t.inlining h ≡ false) (slice_get t.job.stages r) (region_by t boxes r)
        (λ s is. alone s (ap (slice_get t.job.stages) (sym same) ∙ is)))
    by false e true f =
        let here = none r f e in out_of_target t boxes g r (λ i. if e i then Some t.region else (if f i then here i else None))
    by false e false f = out_of_target t boxes g r (λ i. if e i then Some t.region else (if f i then boxes r else None))

none_in_all : (t : Target) (boxes : ℕ → Option Area) (g : ℕ) → ((r : ℕ) → areas_of g (demands_by t boxes r) ≡ []) → (rs : List ℕ)
    → areas_of g (flat_map (demands_by t boxes) rs) ≡ []
none_in_all t boxes g none [] = refl
none_in_all t boxes g none (r ∷ rs) =
    areas_of-append g (demands_by t boxes r) (flat_map (demands_by t boxes) rs) ∙ (λ i. none r i ++ none_in_all t boxes g none rs i)

pub uncut : (o : Option Stage) → cut_to o None ≡ None
uncut None = refl
uncut (Some s) = refl

no_box_within : (t : Target) → IsAlone t → (n g : ℕ) → is_inlined t.inlining g ≡ true → nat_eq g t.stage ≡ false → box_within t n g ≡ None
no_box_within t alone zero g inlined other = refl
no_box_within t alone (suc n) g inlined other =
    ap (λ xs. cut_to (slice_get t.job.stages g) (hull_of_all xs))
    (none_in_all t (box_within t n) g (none_demanded t (box_within t n) g alone inlined (no_box_within t alone n)) (backward t.job.stages))
    ∙ uncut (slice_get t.job.stages g)

no_box : (t : Target) (g : ℕ) → IsAlone t → is_inlined t.inlining g ≡ true → nat_eq g t.stage ≡ false → box t g ≡ None
unfolding box
no_box t g alone inlined other = no_box_within t alone (suc (greatest_rank t.job.stages)) g inlined other

no_points : (t : Target) → IsAlone t → (g : ℕ) → count_points_of_inlined_stage_or_zero t g ≡ 0
no_points t alone g = by (is_inlined t.inlining g) refl (is_function_stage t.job g) (nat_eq g t.stage) refl
  where
    by : (a : Bool) → is_inlined t.inlining g ≡ a → (b c : Bool) → nat_eq g t.stage ≡ c
        → ◌≡◌ {A = ℕ} (if a && (b && not c) then option_map_or point_count (box t g) 0 else 0) 0
    by false e b c f = refl
    by true e false c f = refl
    by true e true true f = refl
    by true e true false f = ap (λ o. option_map_or point_count o 0) (no_box t g alone e f)

no_sum : (t : Target) → IsAlone t → (gs : List ℕ) → sum (map (count_points_of_inlined_stage_or_zero t) gs) ≡ 0
no_sum t alone [] = refl
no_sum t alone (g ∷ gs) = sum_cons (count_points_of_inlined_stage_or_zero t) g gs ∙ (λ i. no_points t alone g i + no_sum t alone gs i)

pub alone_takes_none : (t : Target) (s : Stage) → slice_get t.job.stages t.stage ≡ Some s → has_only_stored_reads t.inlining (reads_of s.body) ≡ true
    → scratch t ≡ 0
alone_takes_none t s there stored =
    let passed = AllPass-from_list_all (λ (x : Read). not (is_inlined t.inlining (stage_read x))) (reads_of s.body) stored in
    let reads : OfReads (λ h. is_inlined t.inlining h ≡ false) (reads_of s.body) = λ k d below. not-true _ (passed k d below) in
    let alone : IsAlone t = λ other is. subst (λ (x : Stage). OfReads (λ h. is_inlined t.inlining h ≡ false) (reads_of x.body))
    (let same : s ≡ other = cc in same) reads in
    sym (scratch_is t) ∙ no_sum t alone (order_stages_by_rank t.job.stages)
