use Rattle.std.proofs.Common.{ap, sym, ◌∙◌, ◌++◌, append_assoc, [], ◌∷◌, List}
use Rattle.identity.specs.declared.key.Key.{Key}
use Rattle.tile_boxes.proofs.Lists.{map_range_more}
use Rattle.overlap_tiles.specs.inside.Keyed.{key_at, row_keys}
use Rattle.overlap_tiles.proofs.work.push_work_keys_of_tile_row.Goals as goal

pub loop-col-preserved : goal.loop-col-preserved
loop-col-preserved c =
    let first = c.args.first.now in
    let row = c.args.row in
    let col = c.loop-col.col in
    c.in_ok-push.ensures.items
    ∙ ap (λ (ks : List Key). ks ++ key_at first (row, col) ∷ []) c.loop-col.invariant
    ∙ append_assoc c.args.keys.now.items (row_keys first col row) (key_at first (row, col) ∷ [])
    ∙ ap (λ (ks : List Key). c.args.keys.now.items ++ ks) (sym (map_range_more (λ j. key_at first (row, j)) col))
