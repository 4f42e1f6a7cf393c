use Rattle.std.proofs.Common.{[], length, sym, ap, ◌∙◌}
use Rattle.std.specs.Option.{option_map_or}
use Rattle.std.proofs.lemmas.List.{length-map}
use Rattle.domains.specs.Tiles.{tile_area, tiles_of}
use Rattle.tile_boxes.specs.Tallies.{list_tile_areas}
use Rattle.tile_boxes.proofs.CostsAddUp.{areas_are}
use Rattle.grouping.proofs.greedy.count_group_tiles.Goals as goal

pub returns-in-Some : goal.returns-in-Some
returns-in-Some c =
    let grid = c.in-Some.grid in
    c.tiles.ensures.count ∙ sym (length-map (tiles_of grid) (λ t. tile_area grid t.0 t.1)) ∙ ap length (areas_are grid)
    ∙ ap (λ o. length (option_map_or list_tile_areas o [])) (sym c.in-Some.is ∙ c.grid.ensures)
