use Rattle.std.proofs.Common.{Option, subst}
use Rattle.std.specs.Prelude.{IfSome}
use Rattle.std.specs.Global.{Vec}
use Rattle.domains.specs.Span.{Ends}
use Rattle.domains.specs.Tiles.{tile_rows, tile_cols}
use Rattle.job.specs.Kept.{pipeline_in}
use Rattle.grouping.specs.inside.Between.{find_group_tile_by_row_and_column, AreSides}
use Rattle.grouping.proofs.CrossedBoxes.{crossed_is}
use Rattle.grouping.proofs.greedy.Grouper.find_separable_boxes_in_grid.Goals as goal

pub returns-clause-is : goal.returns-clause-is
returns-clause-is c =
    let job = pipeline_in c.args.job.now in
    let self = c.args.self.now in
    let k = c.args.candidate.now in
    let g = c.args.grid.now in
    crossed_is job self k g c.in-Some.rows.items c.in-Some-2.cols.items c.args.job.now.well c.requires.stand c.requires.candidate
    c.requires.grid (c.has_separable_readers.ensures c.if-not-has_separable_readers.false)
    (subst (λ (o : Option (Vec Ends)). IfSome o (λ v. AreSides job self k (λ i. find_group_tile_by_row_and_column g i 0) (λ a. a.rows) (tile_rows g) v.items))
    c.in-Some.is c.in_ok-rows.ensures.sides)
    (subst (λ (o : Option (Vec Ends)). IfSome o (λ v. AreSides job self k (λ j. find_group_tile_by_row_and_column g 0 j) (λ a. a.cols) (tile_cols g) v.items))
    c.in-Some-2.is c.in_ok-cols.ensures.sides)
