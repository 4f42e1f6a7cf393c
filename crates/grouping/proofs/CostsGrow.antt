-- What stays and what grows where one function more is inlined.
use Rattle.std.proofs.Common.{ℕ, zero, suc, ◌+◌, ◌<◌, ◌≤◌, ◌⊎◌, inl, inr, arith, ◌≡◌, nat_eq, nat_le, Bool, true, false, ◌&&◌}
use Rattle.std.proofs.Common.{not, Option, Some, None, List, [], ◌∷◌, map, length, refl, ap, sym, subst, ◌∙◌}
use Rattle.std.specs.Prelude.{All, AllPairs, Contains, slice_get, slice_set, if◌then◌else◌}
use Rattle.std.specs.List.{sum, list_all}
use Rattle.std.specs.Option.{option_map_or}
use Rattle.std.proofs.Math.Nat.{le_refl, lt_of_le_of_lt}
use Rattle.std.proofs.lemmas.Bool.{cases_lt, and_parts}
use Rattle.std.proofs.lemmas.Bool.Decides.{nat_tests}
use Rattle.std.proofs.lemmas.List.{get_or-set_same, get_or-set_other}
use Rattle.std.proofs.lemmas.List.Elements.{All-nil, All-head, All-tail, All-contains}
use Rattle.std.proofs.lemmas.List.Folds.{list_all-map}
use Rattle.std.proofs.lemmas.Option.{slice_get_within}
use Rattle.tile_boxes.proofs.BoxesLieInDomains.{there_is}
use Rattle.domains.specs.Area.{point_count}
use Rattle.domains.specs.declared.area.Area.{Area}
use Rattle.domains.proofs.PairLists.{Contains-cases}
use Rattle.job.specs.Pipeline.{Stage, Pipeline, rank_of}
use Rattle.job.specs.Reads.{IsRanked}
use Rattle.job.specs.Answers.{grid_of, has_tiles}
use Rattle.job.specs.Readers.{stage_grid}
use Rattle.job.specs.WellFormed.{IsJob}
use Rattle.job.proofs.Solving.{ranked_is}
use Rattle.job.proofs.TotalLaws.{map_same}
use Rattle.tile_boxes.specs.Order.{ComesBefore, greatest_rank, order_stages_by_rank, backward}
use Rattle.tile_boxes.specs.Schedules.{is_inlined, is_function_stage}
use Rattle.tile_boxes.specs.Demands.{hull_of_all, areas_of}
use Rattle.tile_boxes.specs.Targets.{Target, IsTarget, stage_demands, demands_by, cut_to, is_function_other_than_target, box_by, box_within, box, target_over}
use Rattle.tile_boxes.specs.Costs.{tile_targets, scratch, most_scratch, points, stage_cost, cost_of, has_scratch, stage_fits}
use Rattle.tile_boxes.specs.Tallies.{list_tile_areas, count_points_of_inlined_stage_or_zero}
use Rattle.grouping.specs.Greedy.{cost_or_zero}
use Rattle.grouping.specs.inside.Standings.{areas_at, scratch_by_tile, boxes_by_tile, NoneInlinedBelow}
use Rattle.grouping.specs.inside.Trials.{count_box_points}
use Rattle.tile_boxes.proofs.DemandsFall.{none_of_higher}
use Rattle.tile_boxes.proofs.BoxesFollowTheRule.{same_areas}
use Rattle.tile_boxes.proofs.OrderHasEachStage.{order_pairs, order_has}
use Rattle.tile_boxes.proofs.CostsAddUp.{sum_cons, scratch_is, points_is, cost_is, fits_is, tiles_in_schedules_are_targets}
use Rattle.tile_boxes.proofs.Lists.{AllPairs-head, AllPairs-tail}

-- with_one t g is the target t where g is inlined besides
abbrev pub with_one : Target → ℕ → Target
with_one t g = record { job = t.job; inlining = slice_set t.inlining g true; stage = t.stage; region = t.region }

-- ---- inlining and ranks

pub other_flag : (inlining : List Bool) (g x : ℕ) → nat_eq x g ≡ false → is_inlined (slice_set inlining g true) x ≡ is_inlined inlining x
other_flag inlining g x other = get_or-set_other inlining g x true false (grind (arith, nat_tests))

apart : (stages : List Stage) (g r : ℕ) → rank_of stages g < rank_of stages r → nat_eq r g ≡ false
apart stages g r falls = by (nat_eq r g) refl
  where
    by : (b : Bool) → nat_eq r g ≡ b → nat_eq r g ≡ false
    by false e = e
    by true e =
        let same : r ≡ g = grind (arith, nat_tests) in let ranks : rank_of stages r ≡ rank_of stages g = ap (rank_of stages) same in
        absurd (omega arith)

turned : (g h : ℕ) → nat_eq g h ≡ false → nat_eq h g ≡ false
turned g h other = grind (arith, nat_tests)

-- ---- the boxes of the stages of no lower rank stay

one_step : (t : Target) (g x : ℕ) (b c : ℕ → Option Area) → IsRanked t.job.stages → rank_of t.job.stages g ≤ rank_of t.job.stages x
    → ((r : ℕ) → rank_of t.job.stages x < rank_of t.job.stages r → b r ≡ c r) → box_by (with_one t g) b x ≡ box_by t c x
one_step t g x b c ranked low same =
    ap (λ xs. cut_to (slice_get t.job.stages x) (hull_of_all xs))
    (same_areas (demands_by (with_one t g) b) (demands_by t c) x (backward t.job.stages)
    (λ r. from r (cases_lt (rank_of t.job.stages x) (rank_of t.job.stages r))))
  where
    from : (r : ℕ) → (rank_of t.job.stages x < rank_of t.job.stages r) ⊎ (rank_of t.job.stages r ≤ rank_of t.job.stages x)
        → areas_of x (demands_by (with_one t g) b r) ≡ areas_of x (demands_by t c r)
    from r (inr below) = none_of_higher (with_one t g) b r x ranked below ∙ sym (none_of_higher t c r x ranked below)
    from r (inl high) =
        let other = apart t.job.stages g r (lt_of_le_of_lt low high) in
        let flag = other_flag t.inlining g r other in
        let there = same r high in
        ap (λ o. areas_of x (stage_demands (slice_get t.job.stages r) o))
        (λ i. if nat_eq r t.stage then Some t.region else (if flag i then there i else None))

stays_within : (t : Target) (g : ℕ) → IsRanked t.job.stages → (n x : ℕ) → rank_of t.job.stages g ≤ rank_of t.job.stages x
    → box_within (with_one t g) n x ≡ box_within t n x
stays_within t g ranked zero x low = refl
stays_within t g ranked (suc n) x low =
    one_step t g x (box_within (with_one t g) n) (box_within t n) ranked low
    (λ r high. stays_within t g ranked n r (let up = lt_of_le_of_lt low high in omega arith))

pub box_stays : (t : Target) (g x : ℕ) → IsJob t.job → rank_of t.job.stages g ≤ rank_of t.job.stages x → box (with_one t g) x ≡ box t x
unfolding box
box_stays t g x h low = stays_within t g (ranked_is t.job h) (suc (greatest_rank t.job.stages)) x low

-- ---- sums where one number is greater

abbrev Differs : ℕ → ℕ → Type 0
Differs x y = nat_eq y x ≡ false

same_sum : (f h : ℕ → ℕ) (g : ℕ) (xs : List ℕ) → ((x : ℕ) → nat_eq x g ≡ false → h x ≡ f x) → All (Differs g) xs
    → sum (map h xs) ≡ sum (map f xs)
same_sum f h g [] same none = refl
same_sum f h g (x ∷ xs) same none =
    sum_cons h x xs ∙ (λ i. same x (All-head (Differs g) x xs none) i + same_sum f h g xs same (All-tail (Differs g) x xs none) i)
    ∙ sym (sum_cons f x xs)

more_first : (a s p : ℕ) → (a + p) + s ≡ (a + s) + p
more_first a s p = omega arith

more_later : (a s p : ℕ) → a + (s + p) ≡ (a + s) + p
more_later a s p = omega arith

grown_sum : (f h : ℕ → ℕ) (p g : ℕ) (xs : List ℕ) → ((x : ℕ) → nat_eq x g ≡ false → h x ≡ f x) → h g ≡ f g + p → AllPairs Differs xs
    → Contains xs g → sum (map h xs) ≡ sum (map f xs) + p
grown_sum f h p g [] same more once has = absurd (omega (arith, has.1))
grown_sum f h p g (x ∷ xs) same more once has =
    by (Contains-cases x xs g has) (grown_sum f h p g xs same more (AllPairs-tail Differs x xs once))
  where
    by : (x ≡ g) ⊎ Contains xs g → (Contains xs g → sum (map h xs) ≡ sum (map f xs) + p) → sum (map h (x ∷ xs)) ≡ sum (map f (x ∷ xs)) + p
    by (inl e) grown =
        let here : h x ≡ f x + p = subst (λ (y : ℕ). h y ≡ f y + p) (sym e) more in
        let none : All (Differs g) xs = subst (λ (z : ℕ). All (Differs z) xs) e (AllPairs-head Differs x xs once) in
        sum_cons h x xs ∙ (λ i. here i + same_sum f h g xs same none i) ∙ more_first (f x) (sum (map f xs)) p
        ∙ sym (ap (λ n. n + p) (sum_cons f x xs))
    by (inr later) grown =
        let other = turned g x (All-contains (Differs x) xs g (AllPairs-head Differs x xs once) later) in
        sum_cons h x xs ∙ (λ i. same x other i + grown later i)
        ∙ more_later (f x) (sum (map f xs)) p ∙ sym (ap (λ n. n + p) (sum_cons f x xs))

-- ---- scratch memory grows by the box of g

before_differs : (stages : List Stage) (x y : ℕ) → ComesBefore stages x y → nat_eq y x ≡ false
before_differs stages x y (inl low) = apart stages x y low
before_differs stages x y (inr both) = let low = both.1 in grind (arith, nat_tests)

inner_stays : (t : Target) (g x : ℕ) → IsJob t.job → NoneInlinedBelow t.job t.inlining g → nat_eq x g ≡ false
    → count_points_of_inlined_stage_or_zero (with_one t g) x ≡ count_points_of_inlined_stage_or_zero t x
inner_stays t g x h behind other = by (is_inlined t.inlining x) refl
  where
    flag : is_inlined (slice_set t.inlining g true) x ≡ is_inlined t.inlining x
    flag = other_flag t.inlining g x other

    by : (b : Bool) → is_inlined t.inlining x ≡ b → count_points_of_inlined_stage_or_zero (with_one t g) x ≡ count_points_of_inlined_stage_or_zero t x
    by true e = let stays = box_stays t g x h (behind x e) in (λ i. if flag i && is_function_other_than_target t x then count_box_points (stays i) else 0)
    by false e =
        let off : is_inlined (slice_set t.inlining g true) x ≡ false = flag ∙ e in
        (λ i. if off i && is_function_other_than_target t x then count_box_points (box (with_one t g) x) else 0)
        ∙ sym (λ i. if e i && is_function_other_than_target t x then count_box_points (box t x) else 0)

from_none : (p : ℕ) → p ≡ 0 + p
from_none p = omega arith

inner_grows : (t : Target) (g : ℕ) → IsJob t.job → is_function_other_than_target t g ≡ true → is_inlined t.inlining g ≡ false → g < length t.inlining
    → count_points_of_inlined_stage_or_zero (with_one t g) g ≡ count_points_of_inlined_stage_or_zero t g + count_box_points (box t g)
inner_grows t g h boxed stored below =
    let on : is_inlined (slice_set t.inlining g true) g ≡ true = get_or-set_same t.inlining g true false below in
    let stays = box_stays t g g h (le_refl (rank_of t.job.stages g)) in
    let p : ℕ = count_box_points (box t g) in
    (λ i. if on i && boxed i then count_box_points (stays i) else 0) ∙ from_none p ∙ sym (λ i. (if stored i && is_function_other_than_target t g then p else 0) + p)

pub scratch_grows : (t : Target) (g : ℕ) → IsJob t.job → is_function_other_than_target t g ≡ true → is_inlined t.inlining g ≡ false → g < length t.inlining
    → NoneInlinedBelow t.job t.inlining g
    → scratch (with_one t g) ≡ scratch t + count_box_points (box t g)
scratch_grows t g h boxed stored below behind =
    let stages = t.job.stages in
    let stage = there_is t.job g (and_parts (is_function_stage t.job g) (not (nat_eq g t.stage)) boxed).0 in
    let there : g < length stages = slice_get_within stages g stage.0 stage.1 in
    let once : AllPairs Differs (order_stages_by_rank stages) = λ i j d low high. before_differs stages _ _ (order_pairs stages i j d low high) in
    sym (scratch_is (with_one t g))
    ∙ grown_sum (count_points_of_inlined_stage_or_zero t) (count_points_of_inlined_stage_or_zero (with_one t g)) (count_box_points (box t g)) g (order_stages_by_rank stages)
    (λ x other. inner_stays t g x h behind other)
    (inner_grows t g h boxed stored below) once ((order_has stages g).1 there)
    ∙ ap (λ n. n + count_box_points (box t g)) (scratch_is t)

-- and so do the points of a target and of all tiles of a stage
pub points_grow : (t : Target) (g : ℕ) → IsJob t.job → is_function_other_than_target t g ≡ true → is_inlined t.inlining g ≡ false → g < length t.inlining
    → NoneInlinedBelow t.job t.inlining g
    → points (with_one t g) ≡ points t + count_box_points (box t g)
points_grow t g h boxed stored below behind =
    let p : ℕ = count_box_points (box t g) in
    points_is (with_one t g) ∙ ap (λ n. n + point_count t.region) (scratch_grows t g h boxed stored below behind)
    ∙ more_first (scratch t) (point_count t.region) p ∙ sym (ap (λ n. n + p) (points_is t))

-- ---- tiles

pairwise : (a p s q : ℕ) → (a + p) + (s + q) ≡ (a + s) + (p + q)
pairwise a p s q = omega arith

sum_grows : {X Y : Type 0} (f h : X → ℕ) (p : Y → ℕ) (b : X → Y) (xs : List X) → ((x : X) → h x ≡ f x + p (b x))
    → sum (map h xs) ≡ sum (map f xs) + sum (map p (map b xs))
sum_grows f h p b [] more = refl
sum_grows f h p b (x ∷ xs) more =
    sum_cons h x xs ∙ (λ i. more x i + sum_grows f h p b xs more i) ∙ pairwise (f x) (p (b x)) (sum (map f xs)) (sum (map p (map b xs)))
    ∙ sym (λ i. sum_cons f x xs i + sum_cons p (b x) (map b xs) i)

points_by : (job : Pipeline) (inlining : List Bool) (h : ℕ) → is_inlined inlining h ≡ false → (o : Option Stage)
    → option_map_or (λ n. n) (stage_cost job inlining h o) 0 ≡ sum
    (map (λ a. points (target_over job inlining h a)) (option_map_or list_tile_areas (stage_grid job o) []))
points_by job inlining h stored None = refl
points_by job inlining h stored (Some s) = by (has_tiles s.body)
  where
    by : (b : Bool) → option_map_or (λ n. n) (if b && not (is_inlined inlining h) then Some (cost_of job inlining h s) else None) 0
        ≡ sum
        (map (λ a. points (target_over job inlining h a)) (option_map_or list_tile_areas (if b then Some (grid_of job s) else None) []))
    by false = refl
    by true = ap (λ c. option_map_or (λ n. n) (if not c then Some (cost_of job inlining h s) else None) 0) stored ∙ cost_is job inlining h s

-- the points of a stored stage, tile by tile
pub points_are : (job : Pipeline) (inlining : List Bool) (h : ℕ) → is_inlined inlining h ≡ false
    → cost_or_zero job inlining h ≡ sum (map (λ a. points (target_over job inlining h a)) (areas_at job h))
points_are job inlining h stored = points_by job inlining h stored (slice_get job.stages h)

boxed_in : (job : Pipeline) (inlining : List Bool) (g h : ℕ) (a : Area) → is_function_stage job g ≡ true → nat_eq g h ≡ false
    → is_function_other_than_target (target_over job inlining h a) g ≡ true
boxed_in job inlining g h a function other = λ i. function i && not (other i)

pub cost_grows : (job : Pipeline) (inlining : List Bool) (g h : ℕ) → IsJob job → is_function_stage job g ≡ true → nat_eq g h ≡ false
    → is_inlined inlining g ≡ false → g < length inlining → NoneInlinedBelow job inlining g → is_inlined inlining h ≡ false
    → cost_or_zero job (slice_set inlining g true) h ≡ cost_or_zero job inlining h + sum
    (map count_box_points (boxes_by_tile job inlining h g))
cost_grows job inlining g h is function other stored below behind group =
    points_are job (slice_set inlining g true) h (other_flag inlining g h (turned g h other) ∙ group)
    ∙ sum_grows (λ a. points (target_over job inlining h a)) (λ a. points (target_over job (slice_set inlining g true) h a)) count_box_points
    (λ a. box (target_over job inlining h a) g) (areas_at job h)
    (λ a. points_grow (target_over job inlining h a) g is (boxed_in job inlining g h a function other) stored below behind)
    ∙ sym (ap (λ n. n + sum (map count_box_points (boxes_by_tile job inlining h g))) (points_are job inlining h group))

pub scratch_rises : (job : Pipeline) (inlining : List Bool) (g h : ℕ) → IsJob job → is_function_stage job g ≡ true → nat_eq g h ≡ false
    → is_inlined inlining g ≡ false → g < length inlining → NoneInlinedBelow job inlining g → is_inlined inlining h ≡ false
    → scratch_by_tile job (slice_set inlining g true) h ≡ map
    (λ a. scratch (target_over job inlining h a) + count_box_points (box (target_over job inlining h a) g)) (areas_at job h)
scratch_rises job inlining g h is function other stored below behind group =
    map_same (λ a. scratch (target_over job (slice_set inlining g true) h a))
    (λ a. scratch (target_over job inlining h a) + count_box_points (box (target_over job inlining h a) g)) (areas_at job h)
    (λ a. scratch_grows (target_over job inlining h a) g is (boxed_in job inlining g h a function other) stored below behind)

-- ---- room

room_by : (job : Pipeline) (inlining : List Bool) (h : ℕ) → is_inlined inlining h ≡ false → (o : Option Stage)
    → stage_fits job inlining h o ≡ list_all (λ n. nat_le n most_scratch)
    (map (λ a. scratch (target_over job inlining h a)) (option_map_or list_tile_areas (stage_grid job o) []))
room_by job inlining h stored None = refl
room_by job inlining h stored (Some s) = by (has_tiles s.body)
  where
    fits : Bool
    fits = list_all has_scratch (tile_targets job inlining h s)

    by : (b : Bool) → (if b && not (is_inlined inlining h) then fits else true)
        ≡ list_all (λ n. nat_le n most_scratch)
        (map (λ a. scratch (target_over job inlining h a)) (option_map_or list_tile_areas (if b then Some (grid_of job s) else None) []))
    by false = refl
    by true =
        ap (λ c. if not c then fits else true) stored
        ∙ fits_is job inlining h s
        ∙ sym (list_all-map (λ n. nat_le n most_scratch) (λ a. scratch (target_over job inlining h a)) (list_tile_areas (grid_of job s)))

-- a stored stage has room where each of its tiles has (a plane has no tiles)
pub room_is : (job : Pipeline) (inlining : List Bool) (h : ℕ) → is_inlined inlining h ≡ false
    → stage_fits job inlining h (slice_get job.stages h) ≡ list_all (λ n. nat_le n most_scratch) (scratch_by_tile job inlining h)
room_is job inlining h stored = room_by job inlining h stored (slice_get job.stages h)

-- each tile of a stage is a target
pub areas_are_targets : (job : Pipeline) (inlining : List Bool) (h : ℕ) → IsJob job
    → All (λ a. IsTarget (target_over job inlining h a)) (areas_at job h)
areas_are_targets job inlining h is = by (slice_get job.stages h) refl
  where
    pick : (s : Stage) (b : Bool) → slice_get job.stages h ≡ Some s
        → All (λ a. IsTarget (target_over job inlining h a)) (option_map_or list_tile_areas (if b then Some (grid_of job s) else None) [])
    pick s true there = tiles_in_schedules_are_targets job inlining h s is there
    pick s false there = All-nil (λ a. IsTarget (target_over job inlining h a))

    from : (o : Option Stage) → slice_get job.stages h ≡ o
        → All (λ a. IsTarget (target_over job inlining h a)) (option_map_or list_tile_areas (stage_grid job o) [])
    from None there = All-nil (λ a. IsTarget (target_over job inlining h a))
    from (Some s) there = pick s (has_tiles s.body) there

    by : (o : Option Stage) → slice_get job.stages h ≡ o → All (λ a. IsTarget (target_over job inlining h a)) (areas_at job h)
    by o there =
        subst
        (λ (x : Option Stage). All (λ a. IsTarget (target_over job inlining h a)) (option_map_or list_tile_areas (stage_grid job x) []))
        (sym there) (from o there)

-- ---- where g has no box in h, neither the points of h nor its room change

and_none : (n p : ℕ) → p ≡ 0 → n + p ≡ n
and_none n p e = omega arith

none_sum : {X Y : Type 0} (p : Y → ℕ) (b : X → Y) (xs : List X) → ((x : X) → p (b x) ≡ 0) → sum (map p (map b xs)) ≡ 0
none_sum p b [] none = refl
none_sum p b (x ∷ xs) none = sum_cons p (b x) (map b xs) ∙ (λ i. none x i + none_sum p b xs none i)

pub cost_stays : (job : Pipeline) (inlining : List Bool) (g h : ℕ) → IsJob job → is_function_stage job g ≡ true → nat_eq g h ≡ false
    → is_inlined inlining g ≡ false → g < length inlining → NoneInlinedBelow job inlining g → is_inlined inlining h ≡ false
    → ((a : Area) → box (target_over job inlining h a) g ≡ None) → cost_or_zero job
    (slice_set inlining g true) h ≡ cost_or_zero job inlining h
cost_stays job inlining g h is function other stored below behind group none =
    let no_points = none_sum count_box_points (λ a. box (target_over job inlining h a) g) (areas_at job h) (λ a. ap count_box_points (none a)) in
    cost_grows job inlining g h is function other stored below behind group
    ∙ and_none (cost_or_zero job inlining h) (sum (map count_box_points (boxes_by_tile job inlining h g))) no_points

pub scratch_stays : (job : Pipeline) (inlining : List Bool) (g h : ℕ) → IsJob job → is_function_stage job g ≡ true → nat_eq g h ≡ false
    → is_inlined inlining g ≡ false → g < length inlining → NoneInlinedBelow job inlining g → is_inlined inlining h ≡ false
    → ((a : Area) → box (target_over job inlining h a) g ≡ None) → scratch_by_tile job
    (slice_set inlining g true) h ≡ scratch_by_tile job inlining h
scratch_stays job inlining g h is function other stored below behind group none =
    scratch_rises job inlining g h is function other stored below behind group
    ∙ map_same (λ a. scratch (target_over job inlining h a) + count_box_points (box (target_over job inlining h a) g))
    (λ a. scratch (target_over job inlining h a)) (areas_at job h)
    (λ a. and_none (scratch (target_over job inlining h a)) (count_box_points (box (target_over job inlining h a) g))
    (ap count_box_points (none a)))

pub room_stays : (job : Pipeline) (inlining : List Bool) (g h : ℕ) → IsJob job → is_function_stage job g ≡ true → nat_eq g h ≡ false
    → is_inlined inlining g ≡ false → g < length inlining → NoneInlinedBelow job inlining g → is_inlined inlining h ≡ false
    → ((a : Area) → box (target_over job inlining h a) g ≡ None) → stage_fits job (slice_set inlining g true) h
    (slice_get job.stages h) ≡ stage_fits job inlining h (slice_get job.stages h)
room_stays job inlining g h is function other stored below behind group none =
    room_is job (slice_set inlining g true) h (other_flag inlining g h (turned g h other) ∙ group)
    ∙ ap (list_all (λ n. nat_le n most_scratch)) (scratch_stays job inlining g h is function other stored below behind group none)
    ∙ sym (room_is job inlining h group)
