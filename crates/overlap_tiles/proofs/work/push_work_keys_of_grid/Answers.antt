use Rattle.std.proofs.Common.{arith, ◌≡◌, ap, sym, ◌∙◌, ◌++◌, append_assoc, List, map}
use Rattle.std.specs.List.{flat_map, range_with_len}
use Rattle.domains.specs.Pairs.{pairs}
use Rattle.domains.specs.Tiles.{tile_rows}
use Rattle.identity.specs.declared.key.Key.{Key}
use Rattle.tile_boxes.proofs.Lists.{flat_map_range_more}
use Rattle.overlap_tiles.specs.inside.Keyed.{key_at, row_keys}
use Rattle.overlap_tiles.proofs.WorkKeys.{rows_are}
use Rattle.overlap_tiles.proofs.work.push_work_keys_of_grid.Goals as goal

pub loop-row-preserved : goal.loop-row-preserved
loop-row-preserved c =
    let rows = row_keys c.args.first.now c.tile_cols-cols.result in
    c.in_ok-push_work_keys_of_tile_row.ensures
    ∙ ap (λ (ks : List Key). ks ++ rows c.loop-row.row) c.loop-row.invariant
    ∙ append_assoc c.args.keys.now.items (flat_map rows (range_with_len 0 c.loop-row.row)) (rows c.loop-row.row)
    ∙ ap (λ (ks : List Key). c.args.keys.now.items ++ ks) (sym (flat_map_range_more rows c.loop-row.row))

pub returns : goal.returns
returns c =
    let first = c.args.first.now in
    let end : c.loop-row.row ≡ tile_rows c.args.grid.now = omega (arith, c.tile_rows-row-end.ensures.number) in
    c.loop-row.invariant
    ∙ ap (λ (ks : List Key). c.args.keys.now.items ++ ks)
    (ap (λ n. flat_map (row_keys first c.tile_cols-cols.result) (range_with_len 0 n)) end
    ∙ rows_are first c.tile_cols-cols.result (range_with_len 0 (tile_rows c.args.grid.now))
    ∙ ap (λ n. map (key_at first) (pairs (range_with_len 0 (tile_rows c.args.grid.now)) (range_with_len 0 n)))
    c.tile_cols-cols.ensures.number)
