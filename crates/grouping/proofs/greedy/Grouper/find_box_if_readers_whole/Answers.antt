use Rattle.std.proofs.Common.{sym, subst}
use Rattle.job.specs.Kept.{pipeline_in}
use Rattle.grouping.specs.inside.Between.{IsNumberedTile}
use Rattle.grouping.proofs.CrossedBoxes.{tile_there}
use Rattle.grouping.proofs.greedy.Grouper.find_box_if_readers_whole.Goals as goal

pub find_box_in_tile-area-requires-clause-spot : goal.find_box_in_tile-area-requires-clause-spot
find_box_in_tile-area-requires-clause-spot c =
    let job = pipeline_in c.args.job.now in
    let h = c.args.candidate.now.group in
    subst (IsNumberedTile job h) (sym c.in_ok-spot.ensures.is)
    (tile_there job h c.args.grid.now c.args.row c.args.col c.requires.grid c.in_ok-spot.ensures.there)
