use Rattle.std.proofs.Common.{◌∙◌}
use Rattle.job.specs.Kept.{pipeline_in}
use Rattle.grouping.specs.inside.Between.{find_group_tile_by_row_and_column}
use Rattle.grouping.proofs.CrossedBoxes.{one_more_side}
use Rattle.grouping.proofs.greedy.Grouper.find_separable_box_columns.Goals as goal

pub loop-j-preserved : goal.loop-j-preserved
loop-j-preserved c = (
  c.find_box_if_readers_whole.ensures.room ∙ c.loop-j.invariant.0,
  one_more_side (pipeline_in c.args.job.now) c.args.self.now c.args.candidate.now (λ j. find_group_tile_by_row_and_column c.args.grid.now 0 j) (λ a. a.cols)
      c.loop-j.j c.loop-j.cols.items c.push.new.self.items c.in-Some.area c.loop-j.invariant.1 c.in-Some.ensures.is
      c.in_ok-push-in-Some.ensures.items,
)
