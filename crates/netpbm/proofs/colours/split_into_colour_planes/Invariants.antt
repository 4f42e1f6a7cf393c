-- The samples so far.
use Rattle.std.proofs.Common.{◌≡◌, ◌-◌, ◌*◌, ◌≤◌, take}
use Rattle.netpbm.specs.Colours.{thirds}
use Rattle.netpbm.proofs.colours.split_into_colour_planes.Given as goal

abbrev pub invariant-loop-done : goal.invariant-loop-done
invariant-loop-done l =
    (l.done ≤ l.all) × (l.apart.red.items ≡ thirds 0 (take (3 * l.done) l.samples))
    × (l.apart.green.items ≡ thirds 1 (take (3 * l.done) l.samples)) × (l.apart.blue.items ≡ thirds 2 (take (3 * l.done) l.samples))

abbrev pub decreases-loop-done : goal.decreases-loop-done
decreases-loop-done l = l.all - l.done
