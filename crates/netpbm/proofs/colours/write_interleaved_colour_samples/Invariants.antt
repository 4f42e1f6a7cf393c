-- What is written so far.
use Rattle.std.proofs.Common.{◌≡◌, ℕ, ◌+◌, ◌*◌, ◌<◌, get_or}
use Rattle.netpbm.proofs.colours.write_interleaved_colour_samples.Given as goal

abbrev pub invariant-loop-i : goal.invariant-loop-i
invariant-loop-i l =
    (k : ℕ) → k < l.i
    → (get_or l.out (3 * k) 0 ≡ get_or l.red k 0) × (get_or l.out (3 * k + 1) 0 ≡ get_or l.green k 0)
    × (get_or l.out (3 * k + 2) 0 ≡ get_or l.blue k 0)
