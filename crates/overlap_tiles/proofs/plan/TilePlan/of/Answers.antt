use Rattle.std.proofs.Common.{◌∙◌, ap, map}
use Rattle.job.specs.Kept.{pipeline_in, program_id_in}
use Rattle.overlap_tiles.specs.Needs.{key_tile}
use Rattle.overlap_tiles.proofs.MadeIsLayout.{tiles_back, numbers_fit}
use Rattle.overlap_tiles.proofs.plan.TilePlan.of.Goals as goal
use Rattle.tile_boxes.specs.Targets.{target_over}

pub list_keys_of_tile_needs-requires : goal.list_keys_of_tile_needs-requires
list_keys_of_tile_needs-requires c =
    let is = c.in_ok-layout.ensures.layout in
    numbers_fit (target_over (pipeline_in c.args.job.now) c.args.schedule.now.inlining c.args.stage is.area) c.needs.result.now
    c.args.job.now.well (c.needs.ensures ∙ is.layout.layout.needs)

pub invariant_of-result : goal.invariant_of-result
invariant_of-result c = (
  ap (map key_tile) c.in_ok-needs.ensures ∙ tiles_back (program_id_in c.args.job.now) (pipeline_in c.args.job.now) _ ∙ c.needs.ensures,
  tt,
)
