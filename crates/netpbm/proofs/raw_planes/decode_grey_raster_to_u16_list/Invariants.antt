-- The samples so far, none above the greatest.
use Rattle.std.proofs.Common.{◌≡◌, ◌-◌, ◌≤◌, take, All}
use Rattle.netpbm.specs.Raw.{decoded}
use Rattle.netpbm.proofs.raw_planes.decode_grey_raster_to_u16_list.Given as goal

abbrev pub invariant-loop-done : goal.invariant-loop-done
invariant-loop-done l =
    (l.done ≤ l.area) × (l.grey.items ≡ take l.done (decoded l.max l.raster)) × All (λ s. s ≤ l.max) (take l.done (decoded l.max l.raster))

abbrev pub decreases-loop-done : goal.decreases-loop-done
decreases-loop-done l = l.area - l.done
