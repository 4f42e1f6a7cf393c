-- Which tiles have room in scratch memory.
use Rattle.std.proofs.Common.{arith, ℕ, ◌≤◌, ◌<◌, ◌≡◌, refl, ap, sym, ◌∙◌, subst, Bool, true, false, not, List, [], map, Option}
use Rattle.std.proofs.Common.{Some, None, slice_get, filter}
use Rattle.std.specs.Prelude.{Contains, find, nat_le, if◌then◌else◌}
use Rattle.std.specs.Option.{option_map, option_map_or}
use Rattle.std.proofs.lemmas.Bool.{and_from, and_parts, not-true, false≢true, le-leb, leb-true}
use Rattle.std.proofs.lemmas.List.Elements.{All-contains}
use Rattle.std.proofs.lemmas.Option.{slice_get_within, cond_some}
use Rattle.domains.specs.Tiles.{HasTile, tile_area, tiles_of}
use Rattle.domains.specs.declared.grid.Grid.{Grid}
use Rattle.domains.proofs.Covers.{Contains-tiles_of}
use Rattle.domains.proofs.PairLists.{Contains-filter, Contains-from_filter}
use Rattle.job.specs.Answers.{Tile, tiles, grid_of, has_tiles, is_accumulator}
use Rattle.job.specs.Pipeline.{Body, plane, function, accumulator, Stage, Pipeline}
use Rattle.job.specs.Readers.{stage_grid, grid_at}
use Rattle.job.specs.WellFormed.{IsJob}
use Rattle.tile_boxes.specs.Costs.{scratch, most_scratch, tile_targets}
use Rattle.grouping.specs.Inlining.{Inlining, IsScheduleOf}
use Rattle.tile_boxes.specs.Order.{order_stages_by_rank}
use Rattle.tile_boxes.specs.Schedules.{is_inlined, is_function_stage, is_function_body, IsSchedule}
use Rattle.tile_boxes.specs.Targets.{Target, target_over}
use Rattle.tile_boxes.proofs.Lists.{Contains-flat_map, Contains-map}
use Rattle.tile_boxes.proofs.OrderHasEachStage.{order_has}
use Rattle.overlap_tiles.specs.Needs.{key_of, tile_of_stage}
use Rattle.overlap_tiles.proofs.Lists.{Contains-from_map, Contains-from_flat_map}
use Rattle.tile_boxes.proofs.TilesAreTargets.{gridded}
use Rattle.tile_run.specs.declared.room.TiledStages.{TiledStages}
use Rattle.tile_run.specs.declared.room.TiledStages.TheVariants.{Functions, Accumulators}
use Rattle.tile_run.specs.inside.Running.{StoredFit}
use Rattle.overlap_tiles.specs.Work.{is_stored_function, tiles_in_order, is_tile_over_scratch_limit}
use Rattle.overlap_tiles.proofs.RoomIsExact.{more_is, tile_lacks}
use Rattle.tile_run.specs.Work.{wanted_by, first_too_big}
use Rattle.tile_run.proofs.FirstFound.{none_of, find_of}
use Rattle.one_tile.proofs.LayoutsPrepare.{none_found}

-- ---- one tile

not_false : (b : Bool) → not b ≡ false → b ≡ true
not_false true e = refl
not_false false e = absurd (cc)

module _ (job : Pipeline) (inlining : List Bool) (g : ℕ) (s : Stage) (there : slice_get job.stages g ≡ Some s) where
  lacks_is : has_tiles s.body ≡ true → (i j : ℕ) → HasTile (grid_of job s) i j
      → is_tile_over_scratch_limit job inlining (tile_of_stage g (i, j))
      ≡ not (nat_le (scratch (target_over job inlining g (tile_area (grid_of job s) i j))) most_scratch)
  lacks_is has i j tile =
      tile_lacks job inlining (tile_of_stage g (i, j)) (grid_of job s) (tile_area (grid_of job s) i j)
      (ap (stage_grid job) there ∙ ap (λ b. if b then Some (grid_of job s) else None) has) tile refl
      ∙ more_is (scratch (target_over job inlining g (tile_area (grid_of job s) i j))) most_scratch

  small_fits : has_tiles s.body ≡ true → (i j : ℕ) → HasTile (grid_of job s) i j
      → is_tile_over_scratch_limit job inlining (tile_of_stage g (i, j)) ≡ false
      → scratch (target_over job inlining g (tile_area (grid_of job s) i j)) ≤ most_scratch
  small_fits has i j tile small = leb-true (scratch (target_over job inlining g (tile_area (grid_of job s) i j))) most_scratch
      (not_false (nat_le (scratch (target_over job inlining g (tile_area (grid_of job s) i j))) most_scratch)
      (sym (lacks_is has i j tile) ∙ small))

  fits_small : has_tiles s.body ≡ true → (i j : ℕ) → HasTile (grid_of job s) i j
      → scratch (target_over job inlining g (tile_area (grid_of job s) i j)) ≤ most_scratch
      → is_tile_over_scratch_limit job inlining (tile_of_stage g (i, j)) ≡ false
  fits_small has i j tile fits =
      lacks_is has i j tile ∙ ap not (le-leb (scratch (target_over job inlining g (tile_area (grid_of job s) i j))) most_scratch fits)

  -- ---- the tiles of one stage

  all_tiles : has_tiles s.body ≡ true → tiles job g ≡ map (tile_of_stage g) (tiles_of (grid_of job s))
  all_tiles has =
      ap (λ (o : Option Stage). option_map_or (λ x. if has_tiles x.body then map (tile_of_stage g) (tiles_of (grid_of job x)) else []) o
      []) there
      ∙ ap (λ b. if b then map (tile_of_stage g) (tiles_of (grid_of job s)) else []) has

  pub in_work : (wants : ℕ → Bool) → has_tiles s.body ≡ true → wants g ≡ true → (i j : ℕ) → HasTile (grid_of job s) i j
      → Contains (tiles_in_order job wants) (tile_of_stage g (i, j))
  in_work wants has is i j tile =
      Contains-flat_map (tiles job) (filter wants (order_stages_by_rank job.stages)) g (tile_of_stage g (i, j))
      (Contains-filter wants (order_stages_by_rank job.stages) g ((order_has job.stages g).1 (slice_get_within job.stages g s there)) is)
      (subst (λ (ts : List Tile). Contains ts (tile_of_stage g (i, j))) (sym (all_tiles has))
      (Contains-map (tile_of_stage g) (tiles_of (grid_of job s)) (i, j) ((Contains-tiles_of (grid_of job s) i j).1 tile)))

grid_tiles : (job : Pipeline) (inlining : List Bool) (g : ℕ) (grid : Grid) → grid_at job g ≡ Some grid
    → tiles job g ≡ map (tile_of_stage g) (tiles_of grid)
grid_tiles job inlining g grid = by (slice_get job.stages g) refl
  where
    by : (o : Option Stage) → slice_get job.stages g ≡ o → stage_grid job o ≡ Some grid
        → tiles job g ≡ map (tile_of_stage g) (tiles_of grid)
    by None there e = absurd (cc)
    by (Some s) there e =
        let is = cond_some (has_tiles s.body) (grid_of job s) grid e in
        all_tiles job inlining g s there is.0 ∙ ap (λ (d : Grid). map (tile_of_stage g) (tiles_of d)) is.1

-- the key of what is found first among the tiles of a grid
pub first_key : (program : List ℕ) (job : Pipeline) (inlining : List Bool) (g : ℕ) (grid : Grid) → grid_at job g ≡ Some grid
    → (o : Option (ℕ × ℕ)) → o ≡ find (λ t. is_tile_over_scratch_limit job inlining (tile_of_stage g t)) (tiles_of grid)
    → option_map (λ t. key_of program job (tile_of_stage g t)) o
    ≡ option_map (key_of program job) (find (is_tile_over_scratch_limit job inlining) (tiles job g))
first_key program job inlining g grid at o found =
    mapped o
    ∙ ap (λ (z : Option (ℕ × ℕ)). option_map (key_of program job) (option_map (tile_of_stage g) z)) found
    ∙ ap (option_map (key_of program job)) (sym (find_of (is_tile_over_scratch_limit job inlining) (tile_of_stage g) (tiles_of grid))
    ∙ ap (find (is_tile_over_scratch_limit job inlining)) (sym (grid_tiles job inlining g grid at)))
  where
    mapped : (z : Option (ℕ × ℕ)) → option_map (λ t. key_of program job (tile_of_stage g t)) z
        ≡ option_map (key_of program job) (option_map (tile_of_stage g) z)
    mapped None = refl
    mapped (Some t) = refl

-- the numbers of stages have 16 bits
pub number_fits : (job : Pipeline) → IsJob job → (g : ℕ) (grid : Grid) → grid_at job g ≡ Some grid → g < 65536
number_fits job good g grid there =
    let at = gridded job g grid there in
    let low = slice_get_within job.stages g at.stage at.there in
    let few = good.few_stages in
    omega arith

-- a tile of a stage that is wanted
pub record IsOfWork (job : Pipeline) (wants : ℕ → Bool) (t : Tile) : Type 0 where
  pub stage : Stage
  pub there : slice_get job.stages t.stage ≡ Some stage
  pub has : has_tiles stage.body ≡ true
  pub wanted : wants t.stage ≡ true
  pub tile : HasTile (grid_of job stage) t.row t.col

of_stage : (job : Pipeline) (wants : ℕ → Bool) (g : ℕ) (t : Tile) → wants g ≡ true → Contains (tiles job g) t → IsOfWork job wants t
of_stage job wants g t is = by (slice_get job.stages g) refl
  where
    placed : (s : Stage) → slice_get job.stages g ≡ Some s → has_tiles s.body ≡ true
        → (x : ℕ × ℕ) × Contains (tiles_of (grid_of job s)) x × (tile_of_stage g x ≡ t) → IsOfWork job wants t
    placed s there has x = subst (IsOfWork job wants) x.2 (record {
      stage = s;
      there = there;
      has = has;
      wanted = is;
      tile = (Contains-tiles_of (grid_of job s) x.0.0 x.0.1).0 x.1;
    })

    tiled : (s : Stage) (b : Bool) → slice_get job.stages g ≡ Some s → has_tiles s.body ≡ b
        → Contains (if b then map (tile_of_stage g) (tiles_of (grid_of job s)) else []) t → IsOfWork job wants t
    tiled s true there has k = placed s there has (Contains-from_map (tile_of_stage g) (tiles_of (grid_of job s)) t k)
    tiled s false there has k = absurd (omega (arith, k.1))

    by : (o : Option Stage) → slice_get job.stages g ≡ o
        → Contains (option_map_or (λ s. if has_tiles s.body then map (tile_of_stage g) (tiles_of (grid_of job s)) else []) o []) t
        → IsOfWork job wants t
    by None there k = absurd (omega (arith, k.1))
    by (Some s) there k = tiled s (has_tiles s.body) there refl k

of_work : (job : Pipeline) (wants : ℕ → Bool) (t : Tile) → Contains (tiles_in_order job wants) t → IsOfWork job wants t
of_work job wants t k =
    let from = Contains-from_flat_map (tiles job) (filter wants (order_stages_by_rank job.stages)) t k in
    of_stage job wants from.0 t (Contains-from_filter wants (order_stages_by_rank job.stages) from.0 from.1).1 from.2

-- ---- where no tile is too big

pub none_too_big : (job : Pipeline) (inlining : List Bool) (wants : ℕ → Bool) → first_too_big job inlining wants ≡ None
    → (g : ℕ) (s : Stage) → slice_get job.stages g ≡ Some s → has_tiles s.body ≡ true → wants g ≡ true
    → (i j : ℕ) → HasTile (grid_of job s) i j → scratch (target_over job inlining g (tile_area (grid_of job s) i j)) ≤ most_scratch
none_too_big job inlining wants none g s there has is i j tile =
    small_fits job inlining g s there has i j tile
    (none_found (is_tile_over_scratch_limit job inlining) (tiles_in_order job wants) none (tile_of_stage g (i, j))
    (in_work job inlining g s there wants has is i j tile))

has_some : (b : Body) → is_function_body b ≡ true → has_tiles b ≡ true
has_some (plane n) e = absurd (cc)
has_some (function cases otherwise) e = refl
has_some (accumulator fold bins value bin) e = absurd (cc)

pub stored_fit : (job : Pipeline) (inlining : List Bool) → first_too_big job inlining (is_stored_function job inlining) ≡ None
    → StoredFit job inlining
stored_fit job inlining none g s is =
    let function : is_function_stage job g ≡ true = ap (λ (o : Option Stage). option_map_or (λ x. is_function_body x.body) o false) is.there
    ∙ is.function in
    none_too_big job inlining (is_stored_function job inlining) none g s is.there (has_some s.body is.function)
    (and_from (is_function_stage job g) (not (is_inlined inlining g)) function (ap not is.stored))

-- ---- where the schedule is known to fit

-- what is wanted is not inlined
wanted_stored : (job : Pipeline) (inlining : List Bool) (work : TiledStages) (g : ℕ) (s : Stage) → IsSchedule job inlining
    → slice_get job.stages g ≡ Some s → wanted_by job inlining work g ≡ true → is_inlined inlining g ≡ false
wanted_stored job inlining Functions g s good there is =
    not-true (is_inlined inlining g) (and_parts (is_function_stage job g) (not (is_inlined inlining g)) is).1
wanted_stored job inlining Accumulators g s good there is = by (is_inlined inlining g) refl
  where
    both : (b : Body) → is_accumulator b ≡ true → is_function_body b ≡ true → ⊥
    both (plane n) e f = false≢true e
    both (function cases otherwise) e f = false≢true e
    both (accumulator fold bins value bin) e f = false≢true f

    of_accumulator : is_accumulator s.body ≡ true
    of_accumulator = sym (ap (λ (o : Option Stage). option_map_or (λ x. is_accumulator x.body) o false) there) ∙ is

    of_function : is_inlined inlining g ≡ true → is_function_body s.body ≡ true
    of_function e = sym (ap (λ (o : Option Stage). option_map_or (λ x. is_function_body x.body) o false) there) ∙ good.functions g e

    by : (b : Bool) → is_inlined inlining g ≡ b → b ≡ false
    by false e = refl
    by true e = absurd (both s.body of_accumulator (of_function e))

pub fits_none : (job : Pipeline) (s : Inlining) (work : TiledStages) → IsScheduleOf job s → s.fits ≡ true
    → first_too_big job s.inlining (wanted_by job s.inlining work) ≡ None
fits_none job s work is fits = none_of (is_tile_over_scratch_limit job s.inlining) (tiles_in_order job (wanted_by job s.inlining work))
    (λ t k. small t (of_work job (wanted_by job s.inlining work) t k))
  where
    small : (t : Tile) → IsOfWork job (wanted_by job s.inlining work) t → is_tile_over_scratch_limit job s.inlining t ≡ false
    small t of =
        let over : ℕ × ℕ → Target = λ place. target_over job s.inlining t.stage (tile_area (grid_of job of.stage) place.0 place.1) in
        let stored = wanted_stored job s.inlining work t.stage of.stage is.inlining of.there of.wanted in
        fits_small job s.inlining t.stage of.stage of.there of.has t.row t.col of.tile
        (All-contains (λ x. scratch x ≤ most_scratch) (tile_targets job s.inlining t.stage of.stage) (over (t.row, t.col))
        (is.fits fits t.stage of.stage of.there (and_from (has_tiles of.stage.body) (not (is_inlined s.inlining t.stage)) of.has
        (ap not stored)))
        (Contains-map over (tiles_of (grid_of job of.stage)) (t.row, t.col)
        ((Contains-tiles_of (grid_of job of.stage) t.row t.col).1 of.tile)))
