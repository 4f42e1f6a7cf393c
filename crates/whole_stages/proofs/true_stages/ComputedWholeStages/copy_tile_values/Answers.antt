use Rattle.job.specs.Kept.{pipeline_in}
use Rattle.whole_stages.proofs.TrueTiles.{tile_known, tile_true}
use Rattle.whole_stages.proofs.true_stages.ComputedWholeStages.copy_tile_values.Goals as goal

pub returns-in_default-clause-none : goal.returns-in_default-clause-none
returns-in_default-clause-none c = λ values is. c.in_default.ensures.none is.area is.tile

pub copy_area_values-requires : goal.copy_area_values-requires
copy_area_values-requires c =
    tile_known (pipeline_in c.args.self.now.job.now) c.args.stage c.args.row c.args.col c.in-Some.area c.in-Some.ensures.some
    c.args.self.now.known.buffers.items c.args.self.now.right c.in-Some-borrow_buffer_of_stage.whole.now c.in-Some-borrow_buffer_of_stage.ensures.some

pub returns-clause-some : goal.returns-clause-some
returns-clause-some c =
    tile_true (pipeline_in c.args.self.now.job.now) c.args.stage c.args.row c.args.col c.in-Some.area c.in-Some.ensures.some
    c.args.self.now.known.buffers.items c.args.self.now.right c.in-Some-borrow_buffer_of_stage.whole.now c.in-Some-borrow_buffer_of_stage.ensures.some
    c.in_ok-copy_area_values-in-Some-borrow_buffer_of_stage.field-0.items c.in_ok-copy_area_values-in-Some-borrow_buffer_of_stage.ensures
