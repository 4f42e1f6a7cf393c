-- What is in the lists of tiles that are made and that are wanted, and in which order.
use Rattle.std.proofs.Common.{arith, ℕ, ◌<◌, ◌≡◌, inl, inr, refl, ap, sym, subst, Bool, true, Option, Some, None, List, filter, length}
use Rattle.std.specs.Prelude.{◌↔◌, AllPairs, Contains, IsSomeAnd}
use Rattle.std.specs.List.{range_with_len}
use Rattle.std.proofs.lemmas.Option.{slice_get_within}
use Rattle.std.proofs.lemmas.List.Kept.{AllPairs-filter}
use Rattle.domains.specs.Tiles.{HasTile, IsBefore, tiles_of, tile_rows, tile_cols}
use Rattle.domains.specs.declared.grid.Grid.{Grid}
use Rattle.domains.proofs.Covers.{Contains-tiles_of}
use Rattle.domains.proofs.PairLists.{AllPairs-range, AllPairs-pairs, Contains-filter, Contains-from_filter}
use Rattle.job.specs.Answers.{Tile, tiles, is_result, wanted}
use Rattle.job.specs.Pipeline.{Pipeline}
use Rattle.job.specs.Readers.{grid_at}
use Rattle.tile_boxes.specs.Order.{ComesBefore, order_stages_by_rank}
use Rattle.tile_boxes.proofs.Lists.{Contains-flat_map, Contains-map}
use Rattle.tile_boxes.proofs.OrderHasEachStage.{order_pairs, order_has}
use Rattle.tile_boxes.proofs.TilesAreTargets.{gridded}
use Rattle.overlap_tiles.specs.Needs.{key_of, tile_of_stage, IsTileBefore, IsKeyBefore}
use Rattle.overlap_tiles.specs.Work.{is_stored_or_accumulator_work_stage, work_tiles, wanted_keys, IsWork, IsWorkedBefore}
use Rattle.overlap_tiles.proofs.KeysRise.{key_before}
use Rattle.overlap_tiles.proofs.Lists.{Contains-from_map, Contains-from_flat_map, AllPairs-flat_map, AllPairs-map}
use Rattle.overlap_tiles.proofs.WorkKeys.{no_tiles, grid_tiles}

-- ---- the tiles of one stage

rows_rise : (grid : Grid) → AllPairs IsBefore (tiles_of grid)
rows_rise grid =
    AllPairs-pairs ◌<◌ ◌<◌ (range_with_len 0 (tile_rows grid)) (range_with_len 0 (tile_cols grid)) (AllPairs-range 0 (tile_rows grid))
    (AllPairs-range 0 (tile_cols grid))

module _ (job : Pipeline) (g : ℕ) where
  stage_rises : (R : Tile → Tile → Type 0) → ((x y : ℕ × ℕ) → IsBefore x y → R (tile_of_stage g x) (tile_of_stage g y)) → (o : Option Grid)
      → grid_at job g ≡ o → AllPairs R (tiles job g)
  stage_rises R rises None there = subst (AllPairs R) (sym (no_tiles job g there)) (λ i j d p q. absurd (omega (arith, q)))
  stage_rises R rises (Some grid) there =
      subst (AllPairs R) (sym (grid_tiles job g grid there))
      (AllPairs-map IsBefore R (tile_of_stage g) (tiles_of grid) (rows_rise grid) rises)

  of_its_stage : (n : Tile) (o : Option Grid) → grid_at job g ≡ o → Contains (tiles job g) n → n.stage ≡ g
  of_its_stage n None there k = absurd (let h = subst (λ (ts : List Tile). Contains ts n) (no_tiles job g there) k in omega (arith, h.1))
  of_its_stage n (Some grid) there k =
      let h = subst (λ (ts : List Tile). Contains ts n) (grid_tiles job g grid there) k in
      sym (ap (λ (m : Tile). m.stage) (Contains-from_map (tile_of_stage g) (tiles_of grid) n h).2)

-- ---- wanted tiles rise

wanted_rise : (job : Pipeline) → AllPairs IsTileBefore (wanted job)
wanted_rise job =
    let numbers = range_with_len 0 (length job.stages) in
    AllPairs-flat_map ◌<◌ IsTileBefore (tiles job) (filter (is_result job) numbers)
    (AllPairs-filter ◌<◌ (is_result job) numbers (AllPairs-range 0 (length job.stages)))
    (λ g. stage_rises job g IsTileBefore (λ x y before. inr (refl, before)) (grid_at job g) refl)
    (λ g h less m n here there.
    let first = of_its_stage job g m (grid_at job g) refl here in
    let second = of_its_stage job h n (grid_at job h) refl there in
    inl (omega arith))

pub wanted_keys_rise : (program : List ℕ) (job : Pipeline) → AllPairs IsKeyBefore (wanted_keys program job)
wanted_keys_rise program job =
    AllPairs-map IsTileBefore IsKeyBefore (key_of program job) (wanted job) (wanted_rise job) (key_before program job)

-- ---- the tiles that are made

module _ (job : Pipeline) (inlining : List Bool) where
  made : List ℕ
  made = filter (is_stored_or_accumulator_work_stage job inlining) (order_stages_by_rank job.stages)

  pub work_rises : AllPairs (IsWorkedBefore job) (work_tiles job inlining)
  unfolding made
  work_rises =
      AllPairs-flat_map (ComesBefore job.stages) (IsWorkedBefore job) (tiles job) made
      (AllPairs-filter (ComesBefore job.stages) (is_stored_or_accumulator_work_stage job inlining) (order_stages_by_rank job.stages) (order_pairs job.stages))
      (λ g. stage_rises job g (IsWorkedBefore job) (λ x y before. inr (refl, before)) (grid_at job g) refl)
      (λ g h before m n here there.
      let first = of_its_stage job g m (grid_at job g) refl here in
      let second = of_its_stage job h n (grid_at job h) refl there in
      inl (subst (λ x. ComesBefore job.stages x n.stage) (sym first) (subst (ComesBefore job.stages g) (sym second) before)))

  of_stage : (g : ℕ) (t : Tile) → is_stored_or_accumulator_work_stage job inlining g ≡ true → Contains (tiles job g) t → (o : Option Grid) → grid_at job g ≡ o
      → IsWork job inlining t
  of_stage g t is k None there = absurd (let h = subst (λ (ts : List Tile). Contains ts t) (no_tiles job g there) k in omega (arith, h.1))
  of_stage g t is k (Some grid) there =
      let h = subst (λ (ts : List Tile). Contains ts t) (grid_tiles job g grid there) k in
      let at = Contains-from_map (tile_of_stage g) (tiles_of grid) t h in
      subst (IsWork job inlining) at.2 (record {
        tile = subst (λ (o : Option Grid). IsSomeAnd o (λ d. HasTile d at.0.0 at.0.1)) (sym there)
            ((Contains-tiles_of grid at.0.0 at.0.1).0 at.1);
        made = is;
      })

  from_work : (t : Tile) → Contains (work_tiles job inlining) t → IsWork job inlining t
  unfolding made
  from_work t k =
      let from = Contains-from_flat_map (tiles job) made t k in
      of_stage from.0 t (Contains-from_filter (is_stored_or_accumulator_work_stage job inlining) (order_stages_by_rank job.stages) from.0 from.1).1 from.2 (grid_at job from.0) refl

  to_work : (t : Tile) → IsWork job inlining t → (o : Option Grid) → grid_at job t.stage ≡ o → Contains (work_tiles job inlining) t
  unfolding made
  to_work t is None there = absurd (subst (λ (o : Option Grid). IsSomeAnd o (λ d. HasTile d t.row t.col)) there is.tile)
  to_work t is (Some grid) there =
      let tile : HasTile grid t.row t.col = subst (λ (o : Option Grid). IsSomeAnd o (λ d. HasTile d t.row t.col)) there is.tile in
      let of = gridded job t.stage grid there in
      Contains-flat_map (tiles job) made t.stage t
      (Contains-filter (is_stored_or_accumulator_work_stage job inlining) (order_stages_by_rank job.stages) t.stage
      ((order_has job.stages t.stage).1 (slice_get_within job.stages t.stage of.stage of.there)) is.made)
      (subst (λ (ts : List Tile). Contains ts t) (sym (grid_tiles job t.stage grid there))
      (Contains-map (tile_of_stage t.stage) (tiles_of grid) (t.row, t.col) ((Contains-tiles_of grid t.row t.col).1 tile)))

  pub work_has : (t : Tile) → Contains (work_tiles job inlining) t ↔ IsWork job inlining t
  work_has t = (from_work t, λ is. to_work t is (grid_at job t.stage) refl)
