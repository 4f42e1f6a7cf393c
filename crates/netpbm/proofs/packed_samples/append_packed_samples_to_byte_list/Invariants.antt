-- What is added so far.
use Rattle.std.proofs.Common.{◌≡◌, ◌≤◌, ◌-◌, ◌++◌, length, take}
use Rattle.netpbm.proofs.packed_samples.append_packed_samples_to_byte_list.Given as goal

abbrev pub invariant-loop-done : goal.invariant-loop-done
invariant-loop-done l = (l.done ≤ length l.samples) × (l.bytes.items ≡ l.fn.bytes.items ++ take l.done l.samples)

abbrev pub decreases-loop-done : goal.decreases-loop-done
decreases-loop-done l = length l.samples - l.done
