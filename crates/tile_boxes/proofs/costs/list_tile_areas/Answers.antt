use Rattle.std.proofs.Common.{ℕ, ◌<◌, ap, subst, ◌∙◌}
use Rattle.tile_boxes.specs.Tallies.{list_tile_columns}
use Rattle.tile_boxes.proofs.CostsAddUp.{row_behind}
use Rattle.tile_boxes.proofs.costs.list_tile_areas.Goals as goal
use Rattle.tile_boxes.proofs.costs.list_tile_areas.Goals.{in-Some+in_ok-push_tile_areas_of_row, in_default}

pub loop-i-preserved : goal.loop-i-preserved
loop-i-preserved c =
    let grid = c.args.grid.now in
    elim c.match-tile.branch [
      | in-Some+in_ok-push_tile_areas_of_row w ↦
          row_behind grid c.loop-i.i w.in-Some.tile w.deref.result.now c.loop-i.areas.items _ c.loop-i.invariant w.in-Some.ensures.some.1
          (w.deref.ensures.value ∙ c.in_ok-columns.ensures ∙ ap (list_tile_columns grid) c.tile_cols.ensures.number) (ap (λ v. v.items) w.areas-is ∙ w.in_ok-push_tile_areas_of_row.ensures)
      | in_default w ↦ absurd (w.in_default.ensures.none
          (subst (λ (n : ℕ). c.loop-i.i < n) c.tile_rows-rows.ensures.number c.loop-i-test.true, subst (λ (n : ℕ). 0 < n) c.tile_cols.ensures.number c.tile_cols.ensures.some))
    ]
