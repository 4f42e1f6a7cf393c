-- What stands between the start and here is white space and comments.
use Rattle.std.proofs.Common.{◌≡◌, ◌+◌, ◌-◌, ◌≤◌, false, length, drop}
use Rattle.netpbm.specs.Scanning.{gap_len}
use Rattle.netpbm.proofs.text.skip_netpbm_spaces_and_comments.Given as goal

abbrev pub invariant-loop-at : goal.invariant-loop-at
invariant-loop-at l =
    (l.at ≤ length l.bytes) × (l.at + gap_len l.in_comment (drop l.at l.bytes) ≡ l.start + gap_len false (drop l.start l.bytes))

abbrev pub decreases-loop-at : goal.decreases-loop-at
decreases-loop-at l = length l.bytes - l.at
