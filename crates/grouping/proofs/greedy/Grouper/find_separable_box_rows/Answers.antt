use Rattle.std.proofs.Common.{◌∙◌}
use Rattle.job.specs.Kept.{pipeline_in}
use Rattle.grouping.specs.inside.Between.{find_group_tile_by_row_and_column}
use Rattle.grouping.proofs.CrossedBoxes.{one_more_side}
use Rattle.grouping.proofs.greedy.Grouper.find_separable_box_rows.Goals as goal

pub loop-i-preserved : goal.loop-i-preserved
loop-i-preserved c = (
  c.find_box_if_readers_whole.ensures.room ∙ c.loop-i.invariant.0,
  one_more_side (pipeline_in c.args.job.now) c.args.self.now c.args.candidate.now (λ i. find_group_tile_by_row_and_column c.args.grid.now i 0) (λ a. a.rows)
      c.loop-i.i c.loop-i.rows.items c.push.new.self.items c.in-Some.area c.loop-i.invariant.1 c.in-Some.ensures.is
      c.in_ok-push-in-Some.ensures.items,
)
