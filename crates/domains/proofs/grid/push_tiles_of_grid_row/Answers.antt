use Rattle.std.proofs.Common.{◌≡◌, ◌-◌, ◌++◌, ◌∙◌, ap, map, arith}
use Rattle.std.specs.List.{range_with_len}
use Rattle.domains.proofs.PairLists.{row_more}
use Rattle.domains.proofs.grid.push_tiles_of_grid_row.Goals as goal

pub loop-j-preserved : goal.loop-j-preserved
loop-j-preserved c =
    c.in_ok-push.ensures.items
    ∙ row_more c.args.tiles.now.items c.loop-j.tiles.items c.args.i c.args.cols.0 c.loop-j.j (omega arith) c.loop-j.invariant

pub returns : goal.returns
returns c =
    let all : c.loop-j.j - c.args.cols.0 ≡ c.args.cols.1 - c.args.cols.0 = omega arith in
    c.loop-j.invariant ∙ ap (λ n. c.args.tiles.now.items ++ map (λ j. (c.args.i, j)) (range_with_len c.args.cols.0 n)) all
