use Rattle.std.proofs.Common.{None}
use Rattle.job.specs.Kept.{pipeline_in}
use Rattle.grouping.proofs.KeptBetween.{one_more_whole}
use Rattle.grouping.proofs.greedy.Grouper.find_next_tile_box.Goals as goal

pub returns-then-is_some-clause-wholes : goal.returns-then-is_some-clause-wholes
returns-then-is_some-clause-wholes c =
    one_more_whole (pipeline_in c.args.job.now) c.args.self.now c.args.candidate.now c.args.wholes.now.boxes.items
    c.push_box.new.self.boxes.items c.args.spot.now None c.requires.wholes c.requires.next c.requires.spot tt c.in_ok-push_box.ensures

pub returns-clause-wholes : goal.returns-clause-wholes
returns-clause-wholes c =
    one_more_whole (pipeline_in c.args.job.now) c.args.self.now c.args.candidate.now c.args.wholes.now.boxes.items
    c.push_box-2.new.self.boxes.items c.args.spot.now c.accept_box_if_readers_whole-whole.result c.requires.wholes c.requires.next c.requires.spot
    c.accept_box_if_readers_whole-whole.ensures c.in_ok-push_box-2.ensures
