use Rattle.std.proofs.Common.{ℕ, ◌<◌, ◌++◌, ◌∷◌, [], ap, sym, subst, ◌∙◌}
use Rattle.domains.specs.Tiles.{tile_area}
use Rattle.tile_boxes.proofs.Lists.{map_range_more}
use Rattle.tile_boxes.proofs.costs.list_tile_columns.Goals as goal
use Rattle.tile_boxes.proofs.costs.list_tile_columns.Goals.{in-Some+in_ok-push, in_default}

pub loop-j-preserved : goal.loop-j-preserved
loop-j-preserved c =
    let grid = c.args.grid.now in
    let j = c.loop-j.j in
    elim c.match-tile.branch [
      | in-Some+in_ok-push w ↦
          ap (λ v. v.items) w.columns-is ∙ w.in_ok-push.ensures.items
          ∙ (λ i. c.loop-j.invariant i ++ (w.in-Some.ensures.some.1 i).cols ∷ [])
          ∙ sym (map_range_more (λ j. (tile_area grid 0 j).cols) j)
      | in_default w ↦ absurd (w.in_default.ensures.none (c.requires.some, subst (λ (n : ℕ). j < n) c.requires.count c.loop-j-test.true))
    ]
