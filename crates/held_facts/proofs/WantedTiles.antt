-- Which keys are wanted, and in which order they stand.
use Rattle.std.proofs.Common.{arith, ℕ, ◌<◌, ◌≡◌, ◌⊎◌, inl, inr, refl, sym, ◌∙◌, subst, true, Option, Some, None, List, length}
use Rattle.std.specs.Prelude.{◌≢◌, Contains}
use Rattle.std.specs.List.{range_with_len}
use Rattle.std.specs.declared.cmp.Ordering.TheVariants.{Less, Equal}
use Rattle.std.proofs.lemmas.Bool.{cases_order}
use Rattle.std.proofs.lemmas.Option.{slice_get_within}
use Rattle.domains.specs.Tiles.{HasTile, tiles_of}
use Rattle.domains.specs.declared.grid.Grid.{Grid}
use Rattle.domains.proofs.Covers.{Contains-tiles_of}
use Rattle.domains.proofs.PairLists.{Contains-filter, Contains-from_filter, Contains-range}
use Rattle.tile_boxes.proofs.Lists.{Contains-flat_map, Contains-map}
use Rattle.tile_boxes.proofs.TilesAreTargets.{gridded}
use Rattle.identity.proofs.KeyLaws.{key_order, equal_keys}
use Rattle.identity.specs.declared.key.Key.{Key}
use Rattle.identity.specs.Keys.{key_cmp}
use Rattle.job.specs.Answers.{Tile, tiles, is_result, wanted}
use Rattle.job.specs.Pipeline.{Pipeline}
use Rattle.job.specs.Readers.{grid_at}
use Rattle.overlap_tiles.proofs.KeysRise.{key_before}
use Rattle.overlap_tiles.proofs.Lists.{Contains-from_map, Contains-from_flat_map}
use Rattle.overlap_tiles.proofs.WorkKeys.{no_tiles, grid_tiles}
use Rattle.overlap_tiles.specs.Needs.{key_of, tile_of_stage, IsTileBefore, IsKeyBefore}
use Rattle.overlap_tiles.specs.Work.{wanted_keys}
use Rattle.held_facts.specs.inside.Judging.{tile_key}

-- a tile of a stage that belongs to the answer
pub record IsWantedTile (job : Pipeline) (t : Tile) : Type 0 where
  pub wanted : is_result job t.stage ≡ true
  pub grid : Grid
  pub there : grid_at job t.stage ≡ Some grid
  pub tile : HasTile grid t.row t.col

-- ---- what is wanted

module _ (job : Pipeline) where
  in_stage : (g : ℕ) (t : Tile) → is_result job g ≡ true → Contains (tiles job g) t → (o : Option Grid) → grid_at job g ≡ o
      → IsWantedTile job t
  in_stage g t is has None there =
      absurd (let h = subst (λ (ts : List Tile). Contains ts t) (no_tiles job g there) has in omega (arith, h.1))
  in_stage g t is has (Some grid) there =
      let h = subst (λ (ts : List Tile). Contains ts t) (grid_tiles job g grid there) has in
      let at = Contains-from_map (tile_of_stage g) (tiles_of grid) t h in
      subst (IsWantedTile job) at.2
      (record { wanted = is; grid = grid; there = there; tile = (Contains-tiles_of grid at.0.0 at.0.1).0 at.1 })

  pub wanted_tile : (t : Tile) → Contains (wanted job) t → IsWantedTile job t
  wanted_tile t has =
      let from = Contains-from_flat_map (tiles job) _ t has in
      in_stage from.0 t (Contains-from_filter (is_result job) (range_with_len 0 (length job.stages)) from.0 from.1).1 from.2
      (grid_at job from.0) refl

  pub tile_wanted : (t : Tile) → IsWantedTile job t → Contains (wanted job) t
  tile_wanted t is =
      let of = gridded job t.stage is.grid is.there in
      let low = slice_get_within job.stages t.stage of.stage of.there in
      Contains-flat_map (tiles job) _ t.stage t
      (Contains-filter (is_result job) (range_with_len 0 (length job.stages)) t.stage
      (Contains-range 0 (length job.stages) t.stage (omega arith) (omega arith)) is.wanted)
      (subst (λ (ts : List Tile). Contains ts t) (sym (grid_tiles job t.stage is.grid is.there))
      (Contains-map (tile_of_stage t.stage) (tiles_of is.grid) (t.row, t.col) ((Contains-tiles_of is.grid t.row t.col).1 is.tile)))

-- a wanted key is that of a wanted tile
pub record IsKeyOfWanted (program : List ℕ) (job : Pipeline) (key : Key) : Type 0 where
  pub tile : Tile
  pub wanted : IsWantedTile job tile
  pub is : tile_key program job tile.stage tile.row tile.col ≡ key

pub wanted_key : (program : List ℕ) (job : Pipeline) (key : Key) → Contains (wanted_keys program job) key → IsKeyOfWanted program job key
wanted_key program job key has =
    let from = Contains-from_map (key_of program job) (wanted job) key has in
    record { tile = from.0; wanted = wanted_tile job from.0 from.1; is = from.2 }

pub key_wanted : (program : List ℕ) (job : Pipeline) (t : Tile) → IsWantedTile job t
    → Contains (wanted_keys program job) (key_of program job t)
key_wanted program job t is = Contains-map (key_of program job) (wanted job) t (tile_wanted job t is)

-- ---- the order of keys is that of tiles

pub not_before_itself : (key : Key) → key_cmp key key ≢ Less
not_before_itself key h = absurd (apart (sym ((equal_keys key key).1 refl) ∙ h))
  where
    apart : Equal ≡ Less → ⊥
    apart e = cc

not_behind : (a b : Key) → IsKeyBefore a b → IsKeyBefore b a → ⊥
not_behind a b h k = not_before_itself a (key_order.trans a b a h k)

tile_order : (m n : Tile) → IsTileBefore m n ⊎ ((m ≡ n) ⊎ IsTileBefore n m)
tile_order m n = by_stage (cases_order m.stage n.stage)
  where
    by_col : m.stage ≡ n.stage → m.row ≡ n.row → (m.col ≡ n.col) ⊎ ((m.col < n.col) ⊎ (n.col < m.col))
        → IsTileBefore m n ⊎ ((m ≡ n) ⊎ IsTileBefore n m)
    by_col s r (inl c) = inr (inl (λ i. record { stage = s i; row = r i; col = c i }))
    by_col s r (inr (inl low)) = inl (inr (s, inr (r, low)))
    by_col s r (inr (inr high)) = inr (inr (inr (sym s, inr (sym r, high))))

    by_row : m.stage ≡ n.stage → (m.row ≡ n.row) ⊎ ((m.row < n.row) ⊎ (n.row < m.row))
        → IsTileBefore m n ⊎ ((m ≡ n) ⊎ IsTileBefore n m)
    by_row s (inl r) = by_col s r (cases_order m.col n.col)
    by_row s (inr (inl low)) = inl (inr (s, inl low))
    by_row s (inr (inr high)) = inr (inr (inr (sym s, inl high)))

    by_stage : (m.stage ≡ n.stage) ⊎ ((m.stage < n.stage) ⊎ (n.stage < m.stage)) → IsTileBefore m n ⊎ ((m ≡ n) ⊎ IsTileBefore n m)
    by_stage (inl s) = by_row s (cases_order m.row n.row)
    by_stage (inr (inl low)) = inl (inl low)
    by_stage (inr (inr high)) = inr (inr (inl high))

pub tile_before : (program : List ℕ) (job : Pipeline) (m n : Tile) → IsKeyBefore (key_of program job m) (key_of program job n)
    → IsTileBefore m n
tile_before program job m n h = elim (tile_order m n) [
  | inl before ↦ before
  | inr rest ↦ absurd (elim rest [
    | inl same ↦ not_before_itself (key_of program job m)
        (subst (λ t. IsKeyBefore (key_of program job m) (key_of program job t)) (sym same) h)
    | inr behind ↦ not_behind (key_of program job m) (key_of program job n) h (key_before program job n m behind)
  ])
]
