use Rattle.std.proofs.Common.{◌≡◌, ◌*◌, ◌^◌, ◌+ℤ◌, ◌≤ℤ◌, pos, neg_ℤ, drop}
use Rattle.pipe_bounds.specs.Settings.{affine_value}
use Rattle.pipe_bounds.proofs.affine.affine_value.Given as goal

abbrev pub invariant-loop-term : goal.invariant-loop-term
invariant-loop-term l =
    (l.total +ℤ affine_value l.params (drop l.term-index l.term-items) ≡ affine_value l.params l.term-items)
    × (neg_ℤ (pos (l.term-index * 2 ^ 63)) ≤ℤ l.total)
    × (l.total ≤ℤ pos (l.term-index * 2 ^ 63))
