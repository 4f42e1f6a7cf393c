-- How costs are added up.
use Rattle.std.specs.Prelude.{All, slice_get}
use Rattle.std.specs.List.{Contains, range_with_len, list_all, sum, flat_map}
use Rattle.std.proofs.Common.{not, subst, ◌<◌, length, get_or, ℕ, ◌+◌, arith, ◌≡◌, Bool, true, false, cond, ◌&&◌, if◌then◌else◌}
use Rattle.std.proofs.Common.{Option, Some, None, List, [], ◌∷◌, ◌++◌, map, filter, refl, ap, sym, ◌∙◌}
use Rattle.std.proofs.Math.Bool.{and-true}
use Rattle.std.proofs.lemmas.Bool.{leb-true}
use Rattle.std.proofs.lemmas.Option.{slice_get_within}
use Rattle.std.proofs.lemmas.List.Sums.{AllPass-from_list_all, sum-map, sum_by-append, sum_by-cons}
use Rattle.std.proofs.lemmas.List.Folds.{list_all-append, list_all-map}
use Rattle.std.proofs.lemmas.List.FromFn.{length-range_with_len, get_or-range_with_len}
use Rattle.tile_boxes.specs.Costs.{most_scratch, FitsScratch, has_scratch, stage_fits, tile_targets, cost_of, stage_cost, cost}
use Rattle.tile_boxes.specs.Costs.{points_in, inner_steps, scratch, points}
use Rattle.tile_boxes.specs.Costs.{AllFitScratch}
use Rattle.tile_boxes.specs.Tallies.{all_have_scratch, all_stages_fit, over_domain, list_tile_areas, row_areas, over}
use Rattle.tile_boxes.specs.Tallies.{count_points_of_inlined_stage_or_zero, points_over, list_tile_columns, area_of}
use Rattle.tile_boxes.proofs.Lists.{range_more, flat_map_range_more}
use Rattle.tile_boxes.proofs.TilesAreTargets.{gridded, tile_of_stage_is_target}
use Rattle.std.proofs.lemmas.List.{map-append}
use Rattle.job.specs.Pipeline.{Stage, Pipeline}
use Rattle.std.proofs.lemmas.List.Elements.{All-map, filter-append}
use Rattle.domains.specs.Pairs.{pairs}
use Rattle.domains.specs.Tiles.{HasTile, tile_rows, tile_cols, tiles_of, tile_area}
use Rattle.domains.proofs.PairLists.{All-pairs, Contains-from_range}
use Rattle.job.specs.WellFormed.{IsJob}
use Rattle.job.specs.Answers.{grid_of, has_tiles}
use Rattle.job.specs.Readers.{grid_at}
use Rattle.tile_boxes.specs.Targets.{IsTarget, Target, is_function_other_than_target, box, with_number, numbered_box, target_over}
use Rattle.std.specs.Option.{option_map_or}
use Rattle.domains.specs.Area.{point_count}
use Rattle.domains.specs.Span.{Ends}
use Rattle.domains.specs.declared.area.Area.{Area}
use Rattle.domains.specs.declared.grid.Grid.{Grid}
use Rattle.tile_boxes.specs.Schedules.{is_inlined}
use Rattle.tile_boxes.specs.Order.{order_stages_by_rank}

-- ---- points

points_append : (xs ys : List (ℕ × Area)) → points_in (xs ++ ys) ≡ points_in xs + points_in ys
points_append xs ys =
    let f : ℕ × Area → ℕ = λ s. point_count s.1 in
    sum-map f (xs ++ ys) ∙ sum_by-append f xs ys ∙ sym (λ i. sum-map f xs i + sum-map f ys i)

one_step : (g : ℕ) (a : Area) → points_in ((g, a) ∷ []) ≡ point_count a
one_step g a = let e : 0 + point_count a ≡ point_count a = omega arith in e

inner_by : (p : ℕ → Bool) (g : ℕ) (b : Bool) (o : Option Area)
    → points_in (filter (λ s. p s.0) (if b then with_number g o else [])) ≡ (if p g && b then option_map_or point_count o 0 else 0)
inner_by p g false o = by (p g)
  where
    by : (x : Bool) → ◌≡◌ {A = ℕ} 0 (if x && false then option_map_or point_count o 0 else 0)
    by true = refl
    by false = refl
inner_by p g true None = by (p g)
  where
    by : (x : Bool) → ◌≡◌ {A = ℕ} 0 (if x && true then 0 else 0)
    by true = refl
    by false = refl
inner_by p g true (Some a) = by (p g)
  where
    by : (x : Bool) → points_in (cond x ((g, a) ∷ []) []) ≡ (if x && true then point_count a else 0)
    by true = one_step g a
    by false = refl

pub sum_cons : {X : Type 0} (f : X → ℕ) (x : X) (xs : List X) → sum (map f (x ∷ xs)) ≡ f x + sum (map f xs)
sum_cons f x xs = sum-map f (x ∷ xs) ∙ sum_by-cons f x xs ∙ sym (ap (λ n. f x + n) (sum-map f xs))

sum_inner : (t : Target) (gs : List ℕ)
    → points_in (filter (λ s. is_inlined t.inlining s.0) (flat_map (numbered_box t) gs)) ≡ sum (map (count_points_of_inlined_stage_or_zero t) gs)
sum_inner t [] = refl
sum_inner t (g ∷ gs) =
    let p : ℕ × Area → Bool = λ s. is_inlined t.inlining s.0 in
    ap points_in (filter-append p (numbered_box t g) (flat_map (numbered_box t) gs))
    ∙ points_append (filter p (numbered_box t g)) (filter p (flat_map (numbered_box t) gs))
    ∙ (λ i. inner_by (is_inlined t.inlining) g (is_function_other_than_target t g) (box t g) i + sum_inner t gs i)
    ∙ sym (sum_cons (count_points_of_inlined_stage_or_zero t) g gs)

-- the points in scratch memory, stage by stage
pub scratch_is : (t : Target) → sum (map (count_points_of_inlined_stage_or_zero t) (order_stages_by_rank t.job.stages)) ≡ scratch t
scratch_is t = sym (sum_inner t (order_stages_by_rank t.job.stages))

-- those of a target are those and its own
pub points_is : (t : Target) → points t ≡ scratch t + point_count t.region
points_is t = points_append (inner_steps t) ((t.stage, t.region) ∷ []) ∙ ap (λ n. scratch t + n) (one_step t.stage t.region)

-- ---- tiles

map_map : {A B C : Type 0} (g : B → C) (f : A → B) (xs : List A) → map g (map f xs) ≡ map (λ x. g (f x)) xs
map_map g f [] = refl
map_map g f (x ∷ xs) = ap (λ ys. g (f x) ∷ ys) (map_map g f xs)

-- one more row: its tiles have the rows of the first one, and the columns of those in each row
pub row_behind : (g : Grid) (i : ℕ) (first : Area) (columns : List Ends) (areas after : List Area)
    → areas ≡ flat_map (λ i. row_areas g i (tile_cols g)) (range_with_len 0 i) → first ≡ tile_area g i 0
    → columns ≡ list_tile_columns g (tile_cols g) → after ≡ areas ++ map (area_of first.rows) columns
    → after ≡ flat_map (λ i. row_areas g i (tile_cols g)) (range_with_len 0 (i + 1))
row_behind g i first columns areas after was first_is columns_are is =
    is
    ∙ (λ k. was k ++ map (area_of (first_is k).rows) (columns_are k))
    ∙ ap (λ xs. flat_map (λ i. row_areas g i (tile_cols g)) (range_with_len 0 i) ++ xs)
    (map_map (area_of (tile_area g i 0).rows) (λ j. (tile_area g 0 j).cols) (range_with_len 0 (tile_cols g)))
    ∙ sym (flat_map_range_more (λ i. row_areas g i (tile_cols g)) i)

map_pairs : {A B C : Type 0} (f : A × B → C) (rs : List A) (cs : List B) → map f (pairs rs cs) ≡ flat_map (λ r. map (λ c. f (r, c)) cs) rs
map_pairs f [] cs = refl
map_pairs f (r ∷ rs) cs =
    map-append f (map (λ c. (r, c)) cs) (pairs rs cs) ∙ (λ i. map_map f (λ c. (r, c)) cs i ++ map_pairs f rs cs i)

pub areas_are : (g : Grid) → map (λ t. tile_area g t.0 t.1) (tiles_of g) ≡ list_tile_areas g
areas_are g = map_pairs (λ t. tile_area g t.0 t.1) (range_with_len 0 (tile_rows g)) (range_with_len 0 (tile_cols g))

-- the points of a stage's tiles, area by area
pub cost_is : (job : Pipeline) (inlining : List Bool) (g : ℕ) (s : Stage)
    → cost_of job inlining g s ≡ points_over (over_domain job inlining g s) (list_tile_areas (grid_of job s))
cost_is job inlining g s =
    let t : Target = over_domain job inlining g s in
    let tiles : List (ℕ × ℕ) = tiles_of (grid_of job s) in
    let f : ℕ × ℕ → Area = λ x. tile_area (grid_of job s) x.0 x.1 in
    ap sum (map_map points (λ x. over t (f x)) tiles ∙ sym (map_map (λ a. points (over t a)) f tiles)
    ∙ ap (map (λ a. points (over t a))) (areas_are (grid_of job s)))

has_tile : (g : Grid) (t : ℕ × ℕ) → Contains (range_with_len 0 (tile_rows g)) t.0 × Contains (range_with_len 0 (tile_cols g)) t.1
    → HasTile g t.0 t.1
has_tile g t both =
    let row = Contains-from_range 0 (tile_rows g) t.0 both.0 in
    let col = Contains-from_range 0 (tile_cols g) t.1 both.1 in
    let below = row.1 in let before = col.1 in
    (omega arith, omega arith)

pub tiles_in_schedules_are_targets : (job : Pipeline) (inlining : List Bool) (g : ℕ) (s : Stage) → IsJob job → slice_get job.stages g ≡ Some s
    → All (λ a. IsTarget (over (over_domain job inlining g s) a)) (list_tile_areas (grid_of job s))
tiles_in_schedules_are_targets job inlining g s h there =
    let grid : Grid = grid_of job s in
    let t : Target = over_domain job inlining g s in
    let f : ℕ × ℕ → Area = λ x. tile_area grid x.0 x.1 in
    let listed = All-pairs (range_with_len 0 (tile_rows grid)) (range_with_len 0 (tile_cols grid)) in
    let each : All (λ (x : ℕ × ℕ). IsTarget (over t (f x))) (tiles_of grid) =
    λ k d below. let x : ℕ × ℕ = get_or (tiles_of grid) k d in tile_of_stage_is_target job inlining g s x.0 x.1 h there
    (has_tile grid x (listed k d below)) in
    subst (λ (areas : List Area). All (λ a. IsTarget (over t a)) areas) (areas_are grid)
    (All-map (λ a. IsTarget (over t a)) f (tiles_of grid) each)

pub targets_from : (job : Pipeline) (inlining : List Bool) (n : ℕ) (grid : Grid) (areas : List Area) → IsJob job → grid_at job n ≡ Some grid
    → areas ≡ list_tile_areas grid
    → All (λ a. IsTarget (over (target_over job inlining n grid.area) a)) areas
targets_from job inlining n grid areas h at are =
    let g = gridded job n grid at in
    let all = tiles_in_schedules_are_targets job inlining n g.stage h g.there in
    let same : list_tile_areas (grid_of job g.stage) ≡ areas = ap list_tile_areas g.is ∙ sym are in
    subst (λ (xs : List Area). All (λ a. IsTarget (target_over job inlining n a)) xs) same all

pub cost_from : (job : Pipeline) (inlining : List Bool) (n : ℕ) (grid : Grid) (k : ℕ) → grid_at job n ≡ Some grid
    → is_inlined inlining n ≡ false
    → k ≡ points_over (target_over job inlining n grid.area) (list_tile_areas grid) → Some k ≡ cost job inlining n
cost_from job inlining n grid k at stored is =
    let g = gridded job n grid at in
    let t : Target = over_domain job inlining n g.stage in
    let sum_is : k ≡ cost_of job inlining n g.stage = is ∙ ap (λ (x : Grid). points_over t (list_tile_areas x)) (sym g.is)
    ∙ sym (cost_is job inlining n g.stage) in
    let has : (has_tiles g.stage.body && not (is_inlined inlining n)) ≡ true = (λ i. g.tiles i && not (stored i)) in
    ap Some sum_is ∙ sym (ap (stage_cost job inlining n) g.there ∙ ap (λ b. if b then Some (cost_of job inlining n g.stage) else None) has)

-- ---- room in scratch memory

-- one number more is tested
pub all_more : (p : ℕ → Bool) (n : ℕ) → list_all p (range_with_len 0 (n + 1)) ≡ (list_all p (range_with_len 0 n) && p n)
all_more p n =
    ap (list_all p) (range_more n) ∙ list_all-append p (range_with_len 0 n) (n ∷ [])
    ∙ ap (λ b. list_all p (range_with_len 0 n) && b) (and-true (p n))

below_all : (p : ℕ → Bool) (n g : ℕ) → list_all p (range_with_len 0 n) ≡ true → g < n → p g ≡ true
below_all p n g all below =
    let size : g < length (range_with_len 0 n) = subst (λ (k : ℕ). g < k) (sym (length-range_with_len 0 n)) below in
    subst (λ (k : ℕ). p k ≡ true) (get_or-range_with_len 0 n g 0 below ∙ (let e : 0 + g ≡ g = omega arith in e))
    (AllPass-from_list_all p (range_with_len 0 n) all g 0 size)

-- room for each tile is room for each area
pub fits_is : (job : Pipeline) (inlining : List Bool) (g : ℕ) (s : Stage)
    → list_all has_scratch (tile_targets job inlining g s)
    ≡ all_have_scratch (over_domain job inlining g s) (list_tile_areas (grid_of job s))
fits_is job inlining g s =
    let t : Target = over_domain job inlining g s in
    let tiles : List (ℕ × ℕ) = tiles_of (grid_of job s) in
    let f : ℕ × ℕ → Area = λ x. tile_area (grid_of job s) x.0 x.1 in
    list_all-map has_scratch (λ x. over t (f x)) tiles ∙ sym (list_all-map (λ a. has_scratch (over t a)) f tiles)
    ∙ ap (list_all (λ a. has_scratch (over t a))) (areas_are (grid_of job s))

pub fits_from : (job : Pipeline) (inlining : List Bool) (n : ℕ) (grid : Grid) (b : Bool) → grid_at job n ≡ Some grid
    → is_inlined inlining n ≡ false
    → b ≡ all_have_scratch (target_over job inlining n grid.area) (list_tile_areas grid) → b ≡ stage_fits job inlining n
    (slice_get job.stages n)
fits_from job inlining n grid b at stored is =
    let g = gridded job n grid at in
    let t : Target = over_domain job inlining n g.stage in
    let all : b ≡ list_all has_scratch (tile_targets job inlining n g.stage) = is
    ∙ ap (λ (x : Grid). all_have_scratch t (list_tile_areas x)) (sym g.is) ∙ sym (fits_is job inlining n g.stage) in
    let has : (has_tiles g.stage.body && not (is_inlined inlining n)) ≡ true = (λ i. g.tiles i && not (stored i)) in
    all
    ∙ sym (ap (stage_fits job inlining n) g.there
    ∙ ap (λ d. if d then list_all has_scratch (tile_targets job inlining n g.stage) else true) has)

tiles_fit : (job : Pipeline) (inlining : List Bool) (g : ℕ) (s : Stage) → list_all has_scratch (tile_targets job inlining g s) ≡ true
    → FitsScratch job inlining g s
tiles_fit job inlining g s all =
    let tiles : List Target = tile_targets job inlining g s in
    let passed = AllPass-from_list_all has_scratch tiles all in
    λ k d below. leb-true (scratch (get_or tiles k d)) most_scratch (passed k d below)

pub all_fit : (job : Pipeline) (inlining : List Bool) → all_stages_fit job inlining (range_with_len 0 (length job.stages)) ≡ true
    → AllFitScratch job inlining
all_fit job inlining all g s there has =
    let test = below_all (λ k. stage_fits job inlining k (slice_get job.stages k)) (length job.stages) g all
    (slice_get_within job.stages g s there) in
    let room : stage_fits job inlining g (Some s) ≡ true = sym (ap (stage_fits job inlining g) there) ∙ test in
    tiles_fit job inlining g s (sym (ap (λ b. if b then list_all has_scratch (tile_targets job inlining g s) else true) has) ∙ room)
