use Rattle.std.proofs.Common.{◌≡◌, ◌+◌, length}
use Rattle.farm.specs.NodeEnds.{AreNewEnds}
use Rattle.farm.proofs.node.add_seats_as_worker_receipts.Given as goal

abbrev pub invariant-loop-seat : goal.invariant-loop-seat
invariant-loop-seat l =
    (length l.ends.items ≡ length l.initial.ends.items + length l.yielded) × (AreNewEnds l.initial.ends.items → AreNewEnds l.ends.items)
