-- One supplied tile.
use Rattle.std.specs.Prelude.{ℕ, ℤ, ◌≡◌, Some}
use Rattle.domains.specs.Area.{HoldsPoint}
use Rattle.domains.specs.Tiles.{tile_area, tile_at}
use Rattle.domains.specs.declared.grid.Grid.{Grid}
use Rattle.row_kernels.specs.declared.buffer_view.BufferView.{BufferView}
use Rattle.tile_sources.specs.KnownTiles.{KnownTiles}

-- the numbers of the tile in which the point lies
pub record IsTileAbout (given : KnownTiles) (g : ℕ) (grid : Grid) (r c : ℤ) (block : BufferView) : Type 0 where
  pub area : block.area ≡ tile_area grid (tile_at grid r c).0 (tile_at grid r c).1
  pub numbers : given g (tile_at grid r c).0 (tile_at grid r c).1 ≡ Some block.values.now
  pub holds : HoldsPoint block.area r c
