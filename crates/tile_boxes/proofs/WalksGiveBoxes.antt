-- A walk from the last stage to the first meets each stage when all that is demanded of it has come in.
use Rattle.std.proofs.Common.{ℕ, suc, zero, ◌<◌, ◌≤◌, ◌⊎◌, inl, inr, arith, ◌≡◌, nat_eq, Bool, true, false, Option, None, List}
use Rattle.std.proofs.Common.{[], ◌∷◌, ◌++◌, length, map, filter, slice_index_or}
use Rattle.std.proofs.Common.{slice_set, ◌≢◌, refl, sym, ap, ◌∙◌, subst, append_assoc}
use Rattle.std.specs.Prelude.{All, slice_get, if◌then◌else◌}
use Rattle.std.specs.List.{flat_map, fold}
use Rattle.std.proofs.Math.Nat.{le_refl}
use Rattle.std.proofs.lemmas.Bool.{cases_lt}
use Rattle.std.proofs.lemmas.Bool.Decides.{nat_tests}
use Rattle.std.proofs.lemmas.Grind.{fold-append, flat_map-append}
use Rattle.std.proofs.lemmas.List.{append-nil, length-set, get_or-set_same, get_or-set_other}
use Rattle.std.proofs.lemmas.List.Elements.{All-cons, All-head, All-tail}
use Rattle.std.proofs.lemmas.Option.{slice_get_past}
use Rattle.domains.specs.declared.area.Area.{Area}
use Rattle.job.specs.Pipeline.{Stage, rank_of}
use Rattle.job.specs.Reads.{IsRanked}
use Rattle.job.specs.WellFormed.{IsJob}
use Rattle.job.proofs.Solving.{ranked_is}
use Rattle.tile_boxes.specs.Order.{backward}
use Rattle.tile_boxes.specs.Demands.{Demand, grown_by, hull_of_all, areas_of}
use Rattle.tile_boxes.specs.Targets.{Target, demands_by, cut_to, box}
use Rattle.tile_boxes.specs.Walks.{demanded, demanded_all, new_empty_boxes, cut_hull, walked_one, walked}
use Rattle.tile_boxes.proofs.DemandsFall.{none_of_higher}
use Rattle.tile_boxes.proofs.RanksNeverRise.{NeverRises, never_rises}
use Rattle.tile_boxes.proofs.BoxesFollowTheRule.{areas_of-append, same_demands, box_follows}

-- ---- the hull of one stage

abbrev pub hull_at : List (Option Area) → ℕ → Option Area
hull_at hulls g = slice_index_or hulls g None

one_more : (hulls : List (Option Area)) (d : Demand) (ds : List Demand) (g : ℕ) (b : Bool) → g < length hulls → nat_eq d.stage g ≡ b
    → fold grown_by (hull_at (demanded hulls d) g) (map (λ e. e.area) ds) ≡ fold grown_by (hull_at hulls g)
    (map (λ e. e.area) (if b then d ∷ ds else ds))
one_more hulls d ds g true there e =
    let same : d.stage ≡ g = grind (arith, nat_tests) in
    ap (λ h. fold grown_by h (map (λ e. e.area) ds)) (here d.stage same)
  where
    here : (k : ℕ) → k ≡ g → hull_at (slice_set hulls k (grown_by (hull_at hulls k) d.area)) g ≡ grown_by (hull_at hulls g) d.area
    here k same =
        subst (λ j. hull_at (slice_set hulls j (grown_by (hull_at hulls j) d.area)) g ≡ grown_by (hull_at hulls g) d.area) (sym same)
        (get_or-set_same hulls g (grown_by (hull_at hulls g) d.area) None there)
one_more hulls d ds g false there e =
    let other : g ≢ d.stage = grind (arith, nat_tests) in
    ap (λ h. fold grown_by h (map (λ e. e.area) ds)) (get_or-set_other hulls d.stage g (grown_by (hull_at hulls d.stage) d.area) None other)

pub hull_after : (ds : List Demand) (hulls : List (Option Area)) (g : ℕ) → g < length hulls
    → hull_at (demanded_all hulls ds) g ≡ fold grown_by (hull_at hulls g) (areas_of g ds)
hull_after [] hulls g there = refl
hull_after (d ∷ ds) hulls g there =
    let kept = length-set hulls d.stage (grown_by (hull_at hulls d.stage) d.area) in
    let there_still : g < length (demanded hulls d) = omega arith in
    hull_after ds (demanded hulls d) g there_still ∙ one_more hulls d (filter (λ e. nat_eq e.stage g) ds) g (nat_eq d.stage g) there refl

no_hull : (stages : List Stage) (g : ℕ) → hull_at (new_empty_boxes stages) g ≡ None
no_hull [] g = refl
no_hull (s ∷ ss) zero = refl
no_hull (s ∷ ss) (suc g) = no_hull ss g

length-new_empty_boxes : (stages : List Stage) → length (new_empty_boxes stages) ≡ length stages
length-new_empty_boxes [] = refl
length-new_empty_boxes (s ∷ ss) = ap suc (length-new_empty_boxes ss)

pub hull_from_none : (stages : List Stage) (ds : List Demand) (g : ℕ) → g < length stages
    → hull_at (demanded_all (new_empty_boxes stages) ds) g ≡ hull_of_all (areas_of g ds)
hull_from_none stages ds g there =
    let same = length-new_empty_boxes stages in
    let within : g < length (new_empty_boxes stages) = omega arith in
    hull_after ds (new_empty_boxes stages) g within ∙ ap (λ h. fold grown_by h (areas_of g ds)) (no_hull stages g)

-- a stage that is not there has no box
cut-same : (stages : List Stage) (g : ℕ) (a b : Option Area) → (g < length stages → a ≡ b)
    → cut_to (slice_get stages g) a ≡ cut_to (slice_get stages g) b
cut-same stages g a b same = from (cases_lt g (length stages))
  where
    from : (g < length stages) ⊎ (length stages ≤ g) → cut_to (slice_get stages g) a ≡ cut_to (slice_get stages g) b
    from (inl low) = ap (cut_to (slice_get stages g)) (same low)
    from (inr past) = let none = slice_get_past stages g past in ap (λ o. cut_to o a) none ∙ sym (ap (λ o. cut_to o b) none)

-- ---- the walk

abbrev pub demands_in : Target → ℕ → List Demand
demands_in t r = demands_by t (box t) r

-- the stages from here on demand nothing of one of no lower rank
none_later : (t : Target) (r : ℕ) (rs : List ℕ) → IsRanked t.job.stages → All (λ q. rank_of t.job.stages q ≤ rank_of t.job.stages r) rs
    → areas_of r (flat_map (demands_in t) rs) ≡ []
none_later t r [] ranked low = refl
none_later t r (q ∷ qs) ranked low =
    areas_of-append r (demands_in t q) (flat_map (demands_in t) qs)
    ∙ ap (λ xs. xs ++ areas_of r (flat_map (demands_in t) qs))
    (none_of_higher t (box t) q r ranked (All-head (λ q. rank_of t.job.stages q ≤ rank_of t.job.stages r) q qs low))
    ∙ none_later t r qs ranked (All-tail (λ q. rank_of t.job.stages q ≤ rank_of t.job.stages r) q qs low)

-- so what came in before a stage is all that is demanded of it
all_came_in : (t : Target) (r : ℕ) (done rest : List ℕ) → IsRanked t.job.stages → backward t.job.stages ≡ done ++ (r ∷ rest)
    → All (λ q. rank_of t.job.stages q ≤ rank_of t.job.stages r) rest
    → areas_of r (flat_map (demands_in t) (backward t.job.stages)) ≡ areas_of r (flat_map (demands_in t) done)
all_came_in t r done rest ranked e low =
    ap (λ rs. areas_of r (flat_map (demands_in t) rs)) e
    ∙ ap (areas_of r) (flat_map-append (demands_in t) done (r ∷ rest))
    ∙ areas_of-append r (flat_map (demands_in t) done) (flat_map (demands_in t) (r ∷ rest))
    ∙ ap (λ xs. areas_of r (flat_map (demands_in t) done) ++ xs)
    (none_later t r (r ∷ rest) ranked
    (All-cons (λ q. rank_of t.job.stages q ≤ rank_of t.job.stages r) r rest (le_refl (rank_of t.job.stages r)) low))
    ∙ append-nil (areas_of r (flat_map (demands_in t) done))

cut_is_box : (t : Target) (r : ℕ) (done rest : List ℕ) → IsRanked t.job.stages → backward t.job.stages ≡ done ++ (r ∷ rest)
    → All (λ q. rank_of t.job.stages q ≤ rank_of t.job.stages r) rest
    → cut_hull t.job.stages (demanded_all (new_empty_boxes t.job.stages) (flat_map (demands_in t) done)) r ≡ box t r
cut_is_box t r done rest ranked e low =
    cut-same t.job.stages r (hull_at (demanded_all (new_empty_boxes t.job.stages) (flat_map (demands_in t) done)) r)
    (hull_of_all (areas_of r (flat_map (demands_in t) (backward t.job.stages))))
    (λ there. hull_from_none t.job.stages (flat_map (demands_in t) done) r there
    ∙ ap hull_of_all (sym (all_came_in t r done rest ranked e low)))
    ∙ sym (box_follows t r ranked)

-- one step: what the stage demands over its region comes in
step : (t : Target) (r : ℕ) (done rest : List ℕ) (hulls : List (Option Area)) → IsRanked t.job.stages
    → backward t.job.stages ≡ done ++ (r ∷ rest) → All (λ q. rank_of t.job.stages q ≤ rank_of t.job.stages r) rest
    → hulls ≡ demanded_all (new_empty_boxes t.job.stages) (flat_map (demands_in t) done)
    → walked_one t hulls r ≡ demanded_all (new_empty_boxes t.job.stages) (flat_map (demands_in t) (done ++ r ∷ []))
step t r done rest hulls ranked e low is =
    let none = new_empty_boxes t.job.stages in
    let so_far = flat_map (demands_in t) done in
    ap (λ hs. walked_one t hs r) is
    ∙ ap (demanded_all (demanded_all none so_far))
    (same_demands t (cut_hull t.job.stages (demanded_all none so_far)) (box t) r (cut_is_box t r done rest ranked e low))
    ∙ sym (fold-append demanded none so_far (demands_in t r))
    ∙ ap (demanded_all none) (sym (flat_map-append (demands_in t) done (r ∷ []) ∙ ap (λ ds. so_far ++ ds) (append-nil (demands_in t r))))

walk_on : (t : Target) (todo done : List ℕ) (hulls : List (Option Area)) → IsRanked t.job.stages → backward t.job.stages ≡ done ++ todo
    → NeverRises (rank_of t.job.stages) todo
    → hulls ≡ demanded_all (new_empty_boxes t.job.stages) (flat_map (demands_in t) done)
    → walked t hulls todo ≡ demanded_all (new_empty_boxes t.job.stages) (flat_map (demands_in t) (backward t.job.stages))
walk_on t [] done hulls ranked e falls is =
    is ∙ ap (λ rs. demanded_all (new_empty_boxes t.job.stages) (flat_map (demands_in t) rs)) (sym (e ∙ append-nil done))
walk_on t (r ∷ rest) done hulls ranked e falls is =
    walk_on t rest (done ++ r ∷ []) (walked_one t hulls r) ranked (e ∙ sym (append_assoc done (r ∷ []) rest)) falls.1
    (step t r done rest hulls ranked e falls.0 is)

-- after the walk the hulls, cut to the domains, are the boxes
pub walk_gives_boxes : (t : Target) (g : ℕ) → IsJob t.job
    → cut_hull t.job.stages (walked t (new_empty_boxes t.job.stages) (backward t.job.stages)) g ≡ box t g
walk_gives_boxes t g job =
    let ranked = ranked_is t.job job in
    ap (λ hs. cut_hull t.job.stages hs g)
    (walk_on t (backward t.job.stages) [] (new_empty_boxes t.job.stages) ranked refl (never_rises t.job.stages) refl)
    ∙ cut-same t.job.stages g (hull_at (demanded_all (new_empty_boxes t.job.stages) (flat_map (demands_in t) (backward t.job.stages))) g)
    (hull_of_all (areas_of g (flat_map (demands_in t) (backward t.job.stages))))
    (λ there. hull_from_none t.job.stages (flat_map (demands_in t) (backward t.job.stages)) g there)
    ∙ sym (box_follows t g ranked)
