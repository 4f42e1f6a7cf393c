-- What is stored while a job runs.
use Rattle.std.proofs.Common.{arith, ℕ, zero, suc, ℤ, ◌≡◌, ◌+◌, ◌<◌, ◌≤◌, ◌⊎◌, inl, inr, ap, ◌∙◌, sym, subst, refl, Bool, Option}
use Rattle.std.proofs.Common.{Some, None, List, [], ◌∷◌, ◌++◌, map, set, length, slice_get}
use Rattle.std.specs.Option.{option_map}
use Rattle.std.specs.List.{range_with_len}
use Rattle.std.specs.Global.{Vec}
use Rattle.std.proofs.lemmas.Bool.{cases_eq, cases_lt}
use Rattle.std.proofs.lemmas.List.{map-append, length-set}
use Rattle.std.proofs.lemmas.List.FromFn.{map-range_with_len_more, length-map-range_with_len, get_or-map-range_with_len}
use Rattle.std.proofs.lemmas.Option.{same_Some, none-some, slice_get_within, slice_get-get_or, slice_get-map}
use Rattle.domains.proofs.Places.{slice_get-set_same, slice_get-set_other}
use Rattle.domains.specs.Tiles.{HasTile, tile_rows, tile_cols}
use Rattle.domains.specs.declared.grid.Grid.{Grid}
use Rattle.job.specs.Answers.{grid_of}
use Rattle.job.specs.Pipeline.{Stage, Pipeline}
use Rattle.job.proofs.Unrolling.{rank_is}
use Rattle.tile_boxes.specs.Order.{greatest_rank}
use Rattle.tile_boxes.proofs.BoxesFollowTheRule.{rank_below}
use Rattle.tile_sources.specs.KnownTiles.{AreTrue}
use Rattle.tile_run.specs.Stored.{numbers_in, tile_numbers, stored_tiles, IsStoredFunction, GivesTilesOf, GivesAllTiles}
use Rattle.tile_run.specs.StageRuns.{row_numbers, tile_values, row_values}
use Rattle.tile_run.specs.inside.Running.{grid_values, AreTilesOf, GivesBelow, AreStored}
use Rattle.one_tile.specs.declared.tile_rows.TileRow.{TileRow}
use Rattle.one_tile.specs.declared.tile_rows.StageTiles.{StageTiles}

-- ---- rows

-- one more of a row
pub row_more : {A B : Type 0} (v : A → B) (f : ℕ → B) (n : ℕ) (xs ys : List A) (x : A) → map v xs ≡ map f (range_with_len 0 n)
    → ys ≡ xs ++ x ∷ [] → v x ≡ f n → map v ys ≡ map f (range_with_len 0 (n + 1))
row_more v f n xs ys x so more is =
    ap (map v) more ∙ map-append v xs (x ∷ []) ∙ (λ i. so i ++ is i ∷ []) ∙ sym (map-range_with_len_more f 0 n n (omega arith))

-- what stands in a row
there_in : {A B : Type 0} (v : A → B) (f : ℕ → B) (n i : ℕ) (xs : List A) → map v xs ≡ map f (range_with_len 0 n) → i < n
    → option_map v (slice_get xs i) ≡ Some (f i)
there_in v f n i xs is l =
    let within : i < length (map f (range_with_len 0 n)) = subst (λ m. i < m) (sym (length-map-range_with_len f 0 n)) l in
    sym (slice_get-map v xs i) ∙ ap (λ ys. slice_get ys i) is
    ∙ slice_get-get_or (map f (range_with_len 0 n)) i (f i) within
    ∙ ap Some (get_or-map-range_with_len f 0 n i i (f i) l (omega arith))

-- what stands in rows of tiles
pub tiles_there : (job : Pipeline) (g : ℕ) (grid : Grid) (tiles : StageTiles)
    → map row_numbers tiles.rows.items ≡ grid_values job g grid (tile_rows grid) → (i j : ℕ) → HasTile grid i j
    → tile_numbers (Some tiles) i j ≡ Some (tile_values job g grid i j)
tiles_there job g grid tiles is i j tile =
    by_row (slice_get tiles.rows.items i) (there_in row_numbers (λ k. row_values job g grid k (tile_cols grid)) (tile_rows grid) i
    tiles.rows.items is tile.0)
  where
    by_row : (o : Option TileRow) → option_map row_numbers o ≡ Some (row_values job g grid i (tile_cols grid))
        → numbers_in o j ≡ Some (tile_values job g grid i j)
    by_row None e = absurd (none-some _ e)
    by_row (Some row) e =
        there_in (λ (t : Vec ℤ). t.items) (tile_values job g grid i) (tile_cols grid) j row.tiles.items (same_Some _ _ e) tile.1

-- ---- tiles of one stage

-- where a tile of a stage has this value, it has no other
only_value : (o : Option (List ℤ)) (xs ys : List ℤ) → o ≡ Some ys → o ≡ Some xs → xs ≡ ys
only_value o xs ys is found = same_Some xs ys (sym found ∙ is)

pub are_tiles : (job : Pipeline) (inlining : List Bool) (g : ℕ) (s : Stage) (tiles : StageTiles) → slice_get job.stages g ≡ Some s
    → map row_numbers tiles.rows.items ≡ grid_values job g (grid_of job s) (tile_rows (grid_of job s)) → AreTilesOf job inlining g tiles
are_tiles job inlining g s tiles there is = record {
  right = λ t found i j xs tile numbers. only_value _ _ _ (all t (same_Some s t (sym there ∙ found)) i j tile) numbers;
  all = λ t function. all t (same_Some s t (sym there ∙ function.there));
}
  where
    all : (t : Stage) → s ≡ t → GivesTilesOf job (λ h. tile_numbers (Some tiles)) g t
    all t same = subst (GivesTilesOf job (λ h. tile_numbers (Some tiles)) g) same (tiles_there job g (grid_of job s) tiles is)

-- a stage that is no stored function has no tiles
pub no_tiles : (job : Pipeline) (inlining : List Bool) (g : ℕ) (tiles : StageTiles) → tiles.rows.items ≡ []
    → ((s : Stage) → IsStoredFunction job inlining g s → ⊥) → AreTilesOf job inlining g tiles
no_tiles job inlining g tiles none other = record {
  right = λ s there i j xs tile numbers. absurd
      (none-some xs (sym (ap (λ (rows : List TileRow). numbers_in (slice_get rows i) j) none) ∙ numbers));
  all = λ s function. absurd (other s function);
}

-- ---- by rank

-- the tiles of lower ranks are stored, and of this rank those of numbers below n
pub record AreStoredTo (job : Pipeline) (inlining : List Bool) (rank n : ℕ) (stages : List StageTiles) : Type 0 where
  pub stored : AreStored job inlining rank stages
  pub same :
      (g : ℕ) (s : Stage) → g < n → IsStoredFunction job inlining g s → s.rank ≡ rank
      → GivesTilesOf job (stored_tiles stages) g s

-- one more stage without tiles
pub none_more : (xs : List StageTiles) (t : StageTiles) → t.rows.items ≡ [] → ((g i j : ℕ) → stored_tiles xs g i j ≡ None) → (g i j : ℕ)
    → stored_tiles (xs ++ t ∷ []) g i j ≡ None
none_more [] t e h zero i j = ap (λ (rows : List TileRow). numbers_in (slice_get rows i) j) e
none_more [] t e h (suc g) i j = refl
none_more (x ∷ xs) t e h zero i j = h zero i j
none_more (x ∷ xs) t e h (suc g) i j = none_more xs t e (λ k. h (suc k)) g i j

module _ (job : Pipeline) (inlining : List Bool) where
  -- at first nothing is stored
  pub stored_none : (stages : List StageTiles) → length stages ≡ length job.stages
      → ((g i j : ℕ) → stored_tiles stages g i j ≡ None) → AreStored job inlining 0 stages
  stored_none stages long none = record {
    length = long;
    right = λ g s there i j xs tile found. absurd (none-some xs (sym (none g i j) ∙ found));
    all = λ g s is low. absurd (omega arith);
  }

  pub stored_start : (rank : ℕ) (stages : List StageTiles) → AreStored job inlining rank stages
      → AreStoredTo job inlining rank 0 stages
  stored_start rank stages h = record { stored = h; same = λ g s low is alike. absurd (omega arith) }

  -- after the last stage all of this rank are stored
  pub stored_end : (rank : ℕ) (stages : List StageTiles) → AreStoredTo job inlining rank (length job.stages) stages
      → AreStored job inlining (rank + 1) stages
  stored_end rank stages h = record { length = h.stored.length; right = h.stored.right; all = all }
    where
      all : GivesBelow job inlining (rank + 1) (stored_tiles stages)
      all g s is low = by_rank (cases_lt s.rank rank)
        where
          by_rank : (s.rank < rank) ⊎ (rank ≤ s.rank) → GivesTilesOf job (stored_tiles stages) g s
          by_rank (inl less) = h.stored.all g s is less
          by_rank (inr more) = h.same g s (slice_get_within job.stages g s is.there) is (omega arith)

  -- a stage of another rank is passed over
  pub stored_other : (rank n : ℕ) (stages : List StageTiles) → AreStoredTo job inlining rank n stages
      → ((s : Stage) → slice_get job.stages n ≡ Some s → s.rank ≡ rank → ⊥) → AreStoredTo job inlining rank (n + 1) stages
  stored_other rank n stages h other = record { stored = h.stored; same = same }
    where
      same : (g : ℕ) (s : Stage) → g < n + 1 → IsStoredFunction job inlining g s → s.rank ≡ rank
          → GivesTilesOf job (stored_tiles stages) g s
      same g s low function is = by_place (cases_eq g n)
        where
          by_place : (g ≡ n) ⊎ (g ≡ n → ⊥) → GivesTilesOf job (stored_tiles stages) g s
          by_place (inl e) = absurd (other s (sym (ap (slice_get job.stages) e) ∙ function.there) is)
          by_place (inr ne) = h.same g s (omega (arith, ne)) function is

  -- ---- one stage anew

  module _ (n : ℕ) (stages : List StageTiles) (tiles : StageTiles) (long : length stages ≡ length job.stages) (within : n < length job.stages)
      (are : AreTilesOf job inlining n tiles) where
    abbrev pub after : List StageTiles
    after = set stages n tiles

    at_place : (g : ℕ) → g ≡ n → (i j : ℕ) → stored_tiles after g i j ≡ tile_numbers (Some tiles) i j
    at_place g e i j =
        ap (λ k. stored_tiles after k i j) e
        ∙ ap (λ (o : Option StageTiles). tile_numbers o i j) (slice_get-set_same stages n tiles (omega (arith, long)))

    elsewhere : (g : ℕ) → (g ≡ n → ⊥) → (i j : ℕ) → stored_tiles after g i j ≡ stored_tiles stages g i j
    elsewhere g ne i j = ap (λ (o : Option StageTiles). tile_numbers o i j) (slice_get-set_other stages n g tiles ne)

    -- what is stored stays true
    right_more : AreTrue job (stored_tiles stages) → AreTrue job (stored_tiles after)
    right_more before g s there i j xs tile found = by_place (cases_eq g n)
      where
        by_place : (g ≡ n) ⊎ (g ≡ n → ⊥) → xs ≡ tile_values job g (grid_of job s) i j
        by_place (inl e) = are.right s (sym (ap (slice_get job.stages) e) ∙ there) i j xs tile (sym (at_place g e i j) ∙ found)
            ∙ ap (λ k. tile_values job k (grid_of job s) i j) (sym e)
        by_place (inr ne) = before g s there i j xs tile (sym (elsewhere g ne i j) ∙ found)

    -- and so are all tiles of a stored function
    gives_more : (g : ℕ) (s : Stage) → IsStoredFunction job inlining g s
        → ((g ≡ n → ⊥) → GivesTilesOf job (stored_tiles stages) g s) → GivesTilesOf job (stored_tiles after) g s
    gives_more g s is before i j tile = by_place (cases_eq g n)
      where
        by_place : (g ≡ n) ⊎ (g ≡ n → ⊥) → stored_tiles after g i j ≡ Some (tile_values job g (grid_of job s) i j)
        by_place (inl e) = at_place g e i j ∙ are.all s (subst (λ k. IsStoredFunction job inlining k s) e is) i j tile
            ∙ ap (λ k. Some (tile_values job k (grid_of job s) i j)) (sym e)
        by_place (inr ne) = elsewhere g ne i j ∙ before ne i j tile

    -- one of this rank is added
    pub stored_more : (rank : ℕ) → AreStoredTo job inlining rank n stages → AreStoredTo job inlining rank (n + 1) after
    stored_more rank h = record {
      stored = record {
        length = length-set stages n tiles ∙ h.stored.length;
        right = right_more h.stored.right;
        all = λ g s is low. gives_more g s is (λ ne. h.stored.all g s is low);
      };
      same = λ g s low is alike. gives_more g s is (λ ne. h.same g s (omega (arith, ne)) is alike);
    }

-- after the last rank all are stored
pub all_stored : (job : Pipeline) (inlining : List Bool) (stages : List StageTiles)
    → AreStored job inlining (greatest_rank job.stages + 1) stages → GivesAllTiles job inlining (stored_tiles stages)
all_stored job inlining stages h g s is =
    let most = rank_below job.stages g in
    let own = rank_is job.stages g s is.there in
    h.all g s is (omega arith)
