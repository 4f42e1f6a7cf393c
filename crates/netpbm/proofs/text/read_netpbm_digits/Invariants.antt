-- What stands between the start and here is digits, and the number goes on from their value.
use Rattle.std.proofs.Common.{◌≡◌, ◌+◌, ◌-◌, ◌≤◌, min, length, drop}
use Rattle.std.specs.Str.Parse.{digits_value, digits_value_after}
use Rattle.netpbm.specs.Text.{digits_len, digits_in_front}
use Rattle.netpbm.proofs.text.read_netpbm_digits.Given as goal

abbrev pub invariant-loop-at : goal.invariant-loop-at
invariant-loop-at l =
    (l.at ≤ length l.bytes) × (l.value ≤ 65536)
    × (l.at + digits_len (drop l.at l.bytes) ≡ l.start + digits_len (drop l.start l.bytes))
    × (min 65536 (digits_value_after 10 l.value (digits_in_front (drop l.at l.bytes)))
    ≡ min 65536 (digits_value 10 (digits_in_front (drop l.start l.bytes))))

abbrev pub decreases-loop-at : goal.decreases-loop-at
decreases-loop-at l = length l.bytes - l.at
