-- A piece more.
use Rattle.std.proofs.Common.{◌≤◌, ◌*◌, length, arith, rules}
use Rattle.netpbm.specs.Raw.{decoded}
use Rattle.netpbm.proofs.Rasters.{thirds_on, bounded_on}
use Rattle.netpbm.proofs.raw_planes.decode_colour_raster_to_plane_list.Goals as goal

pub loop-done-preserved : goal.loop-done-preserved
loop-done-preserved c =
    let xs = decoded c.args.max c.args.raster.now in
    let piece = c.decode_raw_into_buffer_and_test_bound.new.out in
    let done = c.loop-done.done in
    let end = c.min-end.result in
    let so_far = c.loop-done.invariant in
    let part = c.decode_raw_into_buffer_and_test_bound.ensures.written in
    let on : done ≤ end = search rules in
    let fits : 3 * end ≤ length xs = search rules in (
      search rules,
      thirds_on 0 xs piece _ _ done end on fits part so_far.1 (search rules),
      thirds_on 1 xs piece _ _ done end on fits part so_far.2 (search rules),
      thirds_on 2 xs piece _ _ done end on fits part so_far.3 (search rules),
      bounded_on c.args.max xs (3 * done) (3 * end) (omega arith) so_far.4 (search rules),
    )
