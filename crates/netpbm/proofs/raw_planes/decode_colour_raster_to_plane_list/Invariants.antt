-- The samples so far, none above the greatest.
use Rattle.std.proofs.Common.{◌≡◌, ◌-◌, ◌*◌, ◌≤◌, take, All}
use Rattle.netpbm.specs.Colours.{thirds}
use Rattle.netpbm.specs.Raw.{decoded}
use Rattle.netpbm.proofs.raw_planes.decode_colour_raster_to_plane_list.Given as goal

abbrev pub invariant-loop-done : goal.invariant-loop-done
invariant-loop-done l =
    let so_far = take (3 * l.done) (decoded l.max l.raster) in
    (l.done ≤ l.area) × (l.apart.red.items ≡ thirds 0 so_far) × (l.apart.green.items ≡ thirds 1 so_far)
    × (l.apart.blue.items ≡ thirds 2 so_far) × All (λ s. s ≤ l.max) so_far

abbrev pub decreases-loop-done : goal.decreases-loop-done
decreases-loop-done l = l.area - l.done
