-- What holds of every grouping.
use Rattle.std.proofs.Common.{ℕ, ◌+◌, ◌<◌, ◌≤◌, ◌⊎◌, inl, inr, arith, ◌≡◌, ◌≢◌, nat_eq, Bool, true, false, Option, Some, None}
use Rattle.std.proofs.Common.{List, [], ◌∷◌, ◌++◌, map, length, reverse, refl, sym, ap, subst, ◌∙◌, get_or}
use Rattle.std.specs.Prelude.{All, AllPairs, Contains, ◌&&◌, not, nat_le, slice_get, slice_set, slice_index_or, if◌then◌else◌}
use Rattle.std.specs.List.{list_all, range_with_len}
use Rattle.std.proofs.lemmas.Bool.{cases_lt, ne_eqb}
use Rattle.std.proofs.lemmas.Bool.Decides.{nat_tests}
use Rattle.std.proofs.lemmas.Option.{slice_get_past}
use Rattle.std.proofs.lemmas.List.{reverse-append, length-set, get_or-set_other, get_or_past}
use Rattle.std.proofs.lemmas.List.Elements.{All-nil, All-cons, All-head, All-tail, All-append, All-weaker, All-contains_itself}
use Rattle.std.proofs.lemmas.List.Sums.{list_all-from_AllPass}
use Rattle.std.proofs.lemmas.List.FromFn.{length-range_with_len, get_or-range_with_len, length-map-range_with_len}
use Rattle.std.proofs.lemmas.List.FromFn.{get_or-map-range_with_len}
use Rattle.domains.specs.declared.area.Area.{Area}
use Rattle.job.specs.Pipeline.{Stage, Pipeline, rank_of}
use Rattle.job.specs.Answers.{is_output, grid_of, has_tiles}
use Rattle.job.proofs.TotalLaws.{map_same}
use Rattle.tile_boxes.specs.Order.{ComesBefore, order_stages_by_rank, backward}
use Rattle.tile_boxes.specs.Schedules.{is_inlined, is_function_stage, IsSchedule, all_stored}
use Rattle.tile_boxes.specs.Targets.{Target, target_over}
use Rattle.tile_boxes.specs.Costs.{tile_targets, scratch, most_scratch, stage_cost, cost, has_scratch, stage_fits}
use Rattle.tile_boxes.specs.Costs.{survey_stage_costs, AllFitScratch}
use Rattle.tile_boxes.specs.Tallies.{list_tile_areas, over, over_domain}
use Rattle.grouping.specs.Greedy.{Grouping, initial_grouping, group, readers}
use Rattle.grouping.specs.Greedy.{find_common_group, with_inlined, pays, has_room, inlined_if, visited}
use Rattle.grouping.specs.inside.Standings.{areas_at, scratch_by_tile}
use Rattle.tile_boxes.proofs.RanksNeverRise.{All-reverse}
use Rattle.tile_boxes.proofs.OrderHasEachStage.{order_pairs, order_has}
use Rattle.tile_boxes.proofs.AskedIsSchedule.{none_inlined}
use Rattle.tile_boxes.proofs.BoxesLieInDomains.{no_scratch}
use Rattle.tile_boxes.proofs.CostsAddUp.{fits_is, all_fit}
use Rattle.tile_boxes.proofs.Lists.{AllPairs-head, AllPairs-tail}

-- ---- the order falls

-- y is of no higher rank than x, and another stage
abbrev pub IsBehind : List Stage → ℕ → ℕ → Type 0
IsBehind stages x y = (rank_of stages y ≤ rank_of stages x) × (nat_eq y x ≡ false)

-- each number is of no higher rank than those before it, and is none of them
abbrev pub Falls : List Stage → List ℕ → Type 0
Falls stages [] = Unit {0}
Falls stages (x ∷ xs) = All (λ y. (rank_of stages y ≤ rank_of stages x) × (nat_eq y x ≡ false)) xs × Falls stages xs

-- each number comes before all later ones
abbrev Rises : List Stage → List ℕ → Type 0
Rises stages [] = Unit {0}
Rises stages (x ∷ xs) = All (ComesBefore stages x) xs × Rises stages xs

rises : (stages : List Stage) (xs : List ℕ) → AllPairs (ComesBefore stages) xs → Rises stages xs
rises stages [] pairs = tt
rises stages (x ∷ xs) pairs =
    (AllPairs-head (ComesBefore stages) x xs pairs, rises stages xs (AllPairs-tail (ComesBefore stages) x xs pairs))

behind : (stages : List Stage) (x y : ℕ) → ComesBefore stages x y → IsBehind stages y x
behind stages x y (inl low) =
    (omega arith, ne_eqb x y (λ e. let same : rank_of stages x ≡ rank_of stages y = ap (rank_of stages) e in omega arith))
behind stages x y (inr (same, low)) = (omega arith, ne_eqb x y (λ e. omega arith))

falls-last : (stages : List Stage) (ys : List ℕ) (x : ℕ) → Falls stages ys → All (λ y. IsBehind stages y x) ys → Falls stages (ys ++ x ∷ [])
falls-last stages [] x falls all = (All-nil (IsBehind stages x), tt)
falls-last stages (y ∷ ys) x falls all = (
  All-append (IsBehind stages y) ys (x ∷ []) falls.0
      (All-cons (IsBehind stages y) x [] (All-head (λ y. IsBehind stages y x) y ys all) (All-nil (IsBehind stages y))),
  falls-last stages ys x falls.1 (All-tail (λ y. IsBehind stages y x) y ys all),
)

reverse_falls : (stages : List Stage) (xs : List ℕ) → Rises stages xs → Falls stages (reverse xs)
reverse_falls stages [] rise = tt
reverse_falls stages (x ∷ xs) rise =
    let all = All-reverse (λ y. IsBehind stages y x) xs
    (All-weaker (ComesBefore stages x) (λ y. IsBehind stages y x) (λ y h. behind stages x y h) xs rise.0) in
    subst (Falls stages) (sym (reverse-append (x ∷ []) xs)) (falls-last stages (reverse xs) x (reverse_falls stages xs rise.1) all)

pub backward_falls : (stages : List Stage) → Falls stages (backward stages)
backward_falls stages = reverse_falls stages (order_stages_by_rank stages) (rises stages (order_stages_by_rank stages) (order_pairs stages))

pub backward_there : (stages : List Stage) → All (λ g. g < length stages) (backward stages)
backward_there stages =
    All-reverse (λ g. g < length stages) (order_stages_by_rank stages)
    (All-weaker (Contains (order_stages_by_rank stages)) (λ g. g < length stages) (λ g inside. (order_has stages g).0 inside) (order_stages_by_rank stages)
    (All-contains_itself (order_stages_by_rank stages)))

-- ---- visits

-- a visit leaves the grouping, or inlines the stage, which then is a function and no output, in the one group of its readers
pub visited_by : (Q : Grouping → Type 0) (job : Pipeline) (percent : ℕ) (c : Grouping) (g : ℕ) → Q c
    → (is_function_stage job g ≡ true → is_output job g ≡ false → (h : ℕ) → find_common_group c (readers job g) ≡ Some h → Q (with_inlined c g h)) → Q
    (visited job percent c g)
visited_by Q job percent c g same one = by (is_function_stage job g) refl (is_output job g) refl
  where
    if_pays : (b : Bool) (h : ℕ) → Q (with_inlined c g h) → Q (if b then with_inlined c g h else c)
    if_pays true h k = k
    if_pays false h k = same

    if_group : (o : Option ℕ) → ((h : ℕ) → o ≡ Some h → Q (with_inlined c g h)) → Q (inlined_if job percent c g o)
    if_group None k = same
    if_group (Some h) k = if_pays (pays job percent c.inlining g h && has_room job c.inlining g h) h (k h refl)

    by : (a : Bool) → is_function_stage job g ≡ a → (b : Bool) → is_output job g ≡ b
        → Q (if a && not b then inlined_if job percent c g (find_common_group c (readers job g)) else c)
    by true e false f = if_group (find_common_group c (readers job g)) (one e f)
    by true e true f = same
    by false e b f = same

-- what holds of g and of all that was inlined holds of all that is inlined with g
pub of_inlined : (P : ℕ → Type 0) (inlining : List Bool) (g k : ℕ) → P g → ((x : ℕ) → is_inlined inlining x ≡ true → P x)
    → is_inlined (slice_set inlining g true) k ≡ true → P k
of_inlined P inlining g k here was inlined = by (nat_eq k g) refl
  where
    by : (b : Bool) → nat_eq k g ≡ b → P k
    by true e = let same : g ≡ k = grind (arith, nat_tests) in subst P same here
    by false e = let other : k ≢ g = grind (arith, nat_tests) in was k (sym (get_or-set_other inlining g k true false other) ∙ inlined)

-- one more function that is no output makes a schedule
pub one_more_is : (job : Pipeline) (inlining : List Bool) (g : ℕ) → IsSchedule job inlining → is_function_stage job g ≡ true → is_output job g ≡ false
    → IsSchedule job (slice_set inlining g true)
one_more_is job inlining g h function inner =
    record {
      each = length-set inlining g true ∙ h.each;
      functions = λ k inlined. of_inlined (λ x. is_function_stage job x ≡ true) inlining g k function h.functions inlined;
      inner = λ k inlined. of_inlined (λ x. is_output job x ≡ false) inlining g k inner h.inner inlined;
    }

-- a visit keeps inlining that make a schedule
pub visited_is : (job : Pipeline) (percent : ℕ) (c : Grouping) (g : ℕ) → IsSchedule job c.inlining
    → IsSchedule job (visited job percent c g).inlining
visited_is job percent c g h =
    visited_by (λ (d : Grouping). IsSchedule job d.inlining) job percent c g h
    (λ function inner k shared. one_more_is job c.inlining g h function inner)

-- of no other stage than g it changes whether it is inlined
pub not_yet : (job : Pipeline) (c : Grouping) (percent g x : ℕ) → nat_eq x g ≡ false
    → is_inlined (visited job percent c g).inlining x ≡ is_inlined c.inlining x
not_yet job c percent g x e =
    let other : x ≢ g = grind (arith, nat_tests) in
    visited_by (λ (d : Grouping). is_inlined d.inlining x ≡ is_inlined c.inlining x) job percent c g refl
    (λ function inner k shared. get_or-set_other c.inlining g x true false other)

-- ---- at first

number_at : (n g : ℕ) → slice_index_or (range_with_len 0 n) g g ≡ g
number_at n g = by (cases_lt g n)
  where
    by : (g < n) ⊎ (n ≤ g) → slice_index_or (range_with_len 0 n) g g ≡ g
    by (inl below) = get_or-range_with_len 0 n g g below ∙ (let e : 0 + g ≡ g = omega arith in e)
    by (inr past) = get_or_past (range_with_len 0 n) g g (subst (λ (k : ℕ). k ≤ g) (sym (length-range_with_len 0 n)) past)

pub group_at_first : (job : Pipeline) (g : ℕ) → group (initial_grouping job) g ≡ g
group_at_first job g = number_at (length job.stages) g

pub stored_at_first : (job : Pipeline) (g : ℕ) → is_inlined (all_stored job) g ≡ false
stored_at_first job g = none_inlined job.stages g

pub scratch_at_first : (job : Pipeline) (g : ℕ) → scratch_by_tile job (all_stored job) g ≡ map (λ a. 0) (areas_at job g)
scratch_at_first job g =
    map_same (λ (a : Area). scratch (target_over job (all_stored job) g a)) (λ (a : Area). 0) (areas_at job g)
    (λ a. no_scratch (target_over job (all_stored job) g a) refl)

room_of : (job : Pipeline) (g : ℕ) (o : Option Stage) → stage_fits job (all_stored job) g o ≡ true
room_of job g None = refl
room_of job g (Some s) = by (has_tiles s.body && not (is_inlined (all_stored job) g))
  where
    areas : List Area
    areas = list_tile_areas (grid_of job s)

    by : (b : Bool) → (if b then list_all has_scratch (tile_targets job (all_stored job) g s) else true) ≡ true
    by true =
        let t : Target = over_domain job (all_stored job) g s in
        fits_is job (all_stored job) g s
        ∙ list_all-from_AllPass (λ a. has_scratch (over t a)) areas
        (λ k d low. ap (λ n. nat_le n most_scratch) (no_scratch (over t (get_or areas k d)) refl))
    by false = refl

pub room_at_first : (job : Pipeline) (g : ℕ) → stage_fits job (all_stored job) g (slice_get job.stages g) ≡ true
room_at_first job g = room_of job g (slice_get job.stages g)

-- the costs of a job have the cost of each stage, whatever is inlined
pub cost_at : (job : Pipeline) (inlining : List Bool) (g : ℕ) → slice_index_or (survey_stage_costs job inlining) g None ≡ cost job inlining g
cost_at job inlining g = by (cases_lt g (length job.stages))
  where
    by : (g < length job.stages) ⊎ (length job.stages ≤ g) → slice_index_or (survey_stage_costs job inlining) g None ≡ cost job inlining g
    by (inl below) =
        get_or-map-range_with_len (cost job inlining) 0 (length job.stages) g g None below (let e : 0 + g ≡ g = omega arith in e)
    by (inr past) =
        get_or_past (survey_stage_costs job inlining) g None
        (subst (λ (k : ℕ). k ≤ g) (sym (length-map-range_with_len (cost job inlining) 0 (length job.stages))) past)
        ∙ sym (ap (stage_cost job inlining g) (slice_get_past job.stages g past))

-- ---- at last

-- rooms of all stages are room of the schedule
pub all_have_room : (job : Pipeline) (inlining : List Bool)
    → ((g : ℕ) → g < length job.stages → stage_fits job inlining g (slice_get job.stages g) ≡ true) → AllFitScratch job inlining
all_have_room job inlining room =
    all_fit job inlining (list_all-from_AllPass (λ g. stage_fits job inlining g (slice_get job.stages g))
    (range_with_len 0 (length job.stages))
    (λ k d low. let g = get_or (range_with_len 0 (length job.stages)) k d in by g (cases_lt g (length job.stages))))
  where
    by : (g : ℕ) → (g < length job.stages) ⊎ (length job.stages ≤ g) → stage_fits job inlining g (slice_get job.stages g) ≡ true
    by g (inl below) = room g below
    by g (inr past) = ap (stage_fits job inlining g) (slice_get_past job.stages g past)
