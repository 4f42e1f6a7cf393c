use Rattle.std.proofs.Common.{◌≡◌, ◌++◌, map, drop}
use Rattle.overlap_tiles.specs.Needs.{tile_of_stage}
use Rattle.overlap_tiles.specs.Views.{need_view}
use Rattle.overlap_tiles.proofs.needs.push_listed_tiles_as_tile_needs.Given as goal

abbrev pub invariant-loop-tile : goal.invariant-loop-tile
invariant-loop-tile l =
    map need_view l.needs.items ++ map (tile_of_stage l.stage) (drop l.tile-index l.tiles) ≡ map need_view l.fn.needs.items ++ map
    (tile_of_stage l.stage) l.tiles
