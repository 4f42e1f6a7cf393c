-- The keys of tiles that are made, and of those that are wanted.
use Rattle.std.proofs.Common.{arith, ℕ, ◌<◌, ◌≡◌, refl, ap, sym, ◌∙◌, Bool, true, false, Option, Some, None, List, [], ◌∷◌, ◌++◌, map}
use Rattle.std.specs.Prelude.{slice_get, if◌then◌else◌}
use Rattle.std.specs.List.{flat_map, range_with_len}
use Rattle.std.specs.Option.{option_map_or}
use Rattle.std.proofs.lemmas.List.{map-append}
use Rattle.std.proofs.lemmas.Option.{slice_get_within}
use Rattle.domains.specs.Pairs.{pairs}
use Rattle.domains.specs.Tiles.{tiles_of}
use Rattle.domains.specs.declared.grid.Grid.{Grid}
use Rattle.identity.specs.declared.key.Key.{Key}
use Rattle.job.specs.Answers.{tiles, grid_of, has_tiles}
use Rattle.job.specs.Pipeline.{Stage, Pipeline}
use Rattle.job.specs.Readers.{stage_grid, grid_at}
use Rattle.job.specs.WellFormed.{IsJob}
use Rattle.tile_boxes.proofs.TilesAreTargets.{gridded}
use Rattle.overlap_tiles.specs.Needs.{key_of, tile_of_stage}
use Rattle.overlap_tiles.specs.inside.Keyed.{key_at, row_keys, Names}

-- ---- lists

pub map_map : {X Y Z : Type 0} → (f : Y → Z) (g : X → Y) (xs : List X) → map f (map g xs) ≡ map (λ x. f (g x)) xs
map_map f g [] = refl
map_map f g (x ∷ xs) = ap (λ ys. f (g x) ∷ ys) (map_map f g xs)

map_same : {X Y : Type 0} → (f g : X → Y) (xs : List X) → ((x : X) → f x ≡ g x) → map f xs ≡ map g xs
map_same f g [] same = refl
map_same f g (x ∷ xs) same = λ i. same x i ∷ map_same f g xs same i

-- row by row
pub rows_are : (k : Key) (cols : ℕ) (rows : List ℕ) → flat_map (row_keys k cols) rows ≡ map (key_at k) (pairs rows (range_with_len 0 cols))
rows_are k cols [] = refl
rows_are k cols (r ∷ rs) =
    (λ i. sym (map_map (key_at k) (λ c. (r, c)) (range_with_len 0 cols)) i ++ rows_are k cols rs i)
    ∙ sym (map-append (key_at k) (map (λ c. (r, c)) (range_with_len 0 cols)) (pairs rs (range_with_len 0 cols)))

-- ---- the tiles of one stage

tiles_at : (job : Pipeline) (g : ℕ) (s : Stage) → slice_get job.stages g ≡ Some s → (b : Bool) → has_tiles s.body ≡ b
    → tiles job g ≡ (if b then map (tile_of_stage g) (tiles_of (grid_of job s)) else [])
tiles_at job g s there b has =
    ap (λ (o : Option Stage). option_map_or (λ x. if has_tiles x.body then map (tile_of_stage g) (tiles_of (grid_of job x)) else []) o
    []) there
    ∙ ap (λ c. if c then map (tile_of_stage g) (tiles_of (grid_of job s)) else []) has

-- a stage without a grid has none
pub no_tiles : (job : Pipeline) (g : ℕ) → grid_at job g ≡ None → tiles job g ≡ []
no_tiles job g = by (slice_get job.stages g) refl
  where
    pick : (s : Stage) (b : Bool) → slice_get job.stages g ≡ Some s → has_tiles s.body ≡ b
        → (if b then Some (grid_of job s) else None) ≡ None → tiles job g ≡ []
    pick s true there has none = absurd (cc)
    pick s false there has none = tiles_at job g s there false has

    by : (o : Option Stage) → slice_get job.stages g ≡ o → stage_grid job o ≡ None → tiles job g ≡ []
    by None there none =
        ap (λ (o : Option Stage). option_map_or (λ x. if has_tiles x.body then map (tile_of_stage g) (tiles_of (grid_of job x)) else []) o
        []) there
    by (Some s) there none = pick s (has_tiles s.body) there refl none

pub grid_tiles : (job : Pipeline) (g : ℕ) (grid : Grid) → grid_at job g ≡ Some grid → tiles job g ≡ map (tile_of_stage g) (tiles_of grid)
grid_tiles job g grid = by (slice_get job.stages g) refl
  where
    pick : (s : Stage) (b : Bool) → slice_get job.stages g ≡ Some s → has_tiles s.body ≡ b
        → (if b then Some (grid_of job s) else None) ≡ Some grid → tiles job g ≡ map (tile_of_stage g) (tiles_of grid)
    pick s true there has is =
        let same : grid_of job s ≡ grid = cc in
        tiles_at job g s there true has ∙ ap (λ (d : Grid). map (tile_of_stage g) (tiles_of d)) same
    pick s false there has is = absurd (cc)

    by : (o : Option Stage) → slice_get job.stages g ≡ o → stage_grid job o ≡ Some grid
        → tiles job g ≡ map (tile_of_stage g) (tiles_of grid)
    by None there is = absurd (cc)
    by (Some s) there is = pick s (has_tiles s.body) there refl is

-- the keys that are made of one that names the program
pub keys_are : (program : List ℕ) (job : Pipeline) (named first : Key) (g : ℕ) (grid : Grid) → Names program job named
    → first.program ≡ named.program → first.input ≡ named.input → first.stage ≡ g → grid_at job g ≡ Some grid
    → map (key_at first) (tiles_of grid) ≡ map (key_of program job) (tiles job g)
keys_are program job named first g grid names same_program same_input same_stage there =
    map_same (key_at first) (λ t. key_of program job (tile_of_stage g t)) (tiles_of grid)
    (λ t i. record {
      program = (same_program ∙ names.program) i;
      input = (same_input ∙ names.input) i;
      stage = same_stage i;
      row = t.0;
      col = t.1;
    })
    ∙ sym (map_map (key_of program job) (tile_of_stage g) (tiles_of grid))
    ∙ ap (map (key_of program job)) (sym (grid_tiles job g grid there))

-- the numbers of stages have 16 bits
pub number_fits : (job : Pipeline) → IsJob job → (g : ℕ) (grid : Grid) → grid_at job g ≡ Some grid → g < 65536
number_fits job good g grid there =
    let at = gridded job g grid there in
    let low = slice_get_within job.stages g at.stage at.there in
    let few = good.few_stages in
    omega arith
