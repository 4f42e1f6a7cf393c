-- How the code keeps the boxes of an inlined function. It keeps one for each tile of its group, or the rows for each row of tiles
-- and the columns for each column of tiles.
use Rattle.std.specs.Prelude.{ℕ, ◌≡◌, Option, Some, List, map, length}
use Rattle.std.specs.List.{flat_map}
use Rattle.domains.specs.Span.{Ends}
use Rattle.domains.specs.declared.area.Area.{Area}
use Rattle.tile_boxes.specs.Tallies.{area_of}
use Rattle.grouping.specs.declared.boxes.GroupBoxes.{GroupBoxes}
use Rattle.grouping.specs.declared.boxes.GroupBoxes.TheVariants.{Each, Crossed}

-- the product of these rows and these columns, row by row
abbrev pub crossed : List Ends → List Ends → List (Option Area)
crossed rows cols = flat_map (λ r. map (λ c. Some (area_of r c)) cols) rows

-- the box in each tile
abbrev pub boxes_in : GroupBoxes → List (Option Area)
boxes_in (Each boxes) = boxes.items
boxes_in (Crossed spans) = crossed spans.rows.items spans.cols.items

-- the boxes are a product of n rows and m columns
abbrev pub IsCrossed : ℕ → ℕ → GroupBoxes → Type 0
IsCrossed n m (Each boxes) = ⊥
IsCrossed n m (Crossed spans) = (length spans.rows.items ≡ n) × (length spans.cols.items ≡ m)
