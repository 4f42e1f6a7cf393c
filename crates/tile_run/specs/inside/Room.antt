-- Tiles among which the first that does not fit is searched.
use Rattle.std.specs.Prelude.{ℕ, List, map}
use Rattle.std.specs.List.{range_with_len}
use Rattle.domains.specs.Tiles.{tile_cols}
use Rattle.domains.specs.declared.grid.Grid.{Grid}

-- the places of the tiles in row i of a grid
abbrev pub row_tiles : Grid → ℕ → List (ℕ × ℕ)
row_tiles grid i = map (λ j. (i, j)) (range_with_len 0 (tile_cols grid))
