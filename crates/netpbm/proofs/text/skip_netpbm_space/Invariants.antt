-- What stands between the start and here is white.
use Rattle.std.proofs.Common.{◌≡◌, ◌+◌, ◌-◌, ◌≤◌, length, drop}
use Rattle.netpbm.specs.Text.{white_len}
use Rattle.netpbm.proofs.text.skip_netpbm_space.Given as goal

abbrev pub invariant-loop-at : goal.invariant-loop-at
invariant-loop-at l = (l.at ≤ length l.bytes) × (l.at + white_len (drop l.at l.bytes) ≡ l.start + white_len (drop l.start l.bytes))

abbrev pub decreases-loop-at : goal.decreases-loop-at
decreases-loop-at l = length l.bytes - l.at
