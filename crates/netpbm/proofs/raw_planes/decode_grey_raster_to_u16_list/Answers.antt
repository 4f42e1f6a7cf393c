-- A piece more.
use Rattle.std.proofs.Common.{◌≤◌, rules}
use Rattle.netpbm.specs.Raw.{decoded}
use Rattle.netpbm.proofs.Rasters.{samples_on, bounded_on}
use Rattle.netpbm.proofs.raw_planes.decode_grey_raster_to_u16_list.Goals as goal

pub loop-done-preserved : goal.loop-done-preserved
loop-done-preserved c =
    let xs = decoded c.args.max c.args.raster.now in
    let done = c.loop-done.done in
    let end = c.min-end.result in
    let so_far = c.loop-done.invariant in
    let on : done ≤ end = search rules in (
      search rules,
      samples_on xs c.decode_raw_into_buffer_and_test_bound.new.out _ _ done end on c.decode_raw_into_buffer_and_test_bound.ensures.written so_far.1 (search rules),
      bounded_on c.args.max xs done end on so_far.2 (search rules),
    )
