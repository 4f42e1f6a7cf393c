use Rattle.std.proofs.Common.{◌≡◌, ◌+ℤ◌, pos, drop, length}
use Rattle.tile_eval.specs.Rows.{EachPlace, at}
use Rattle.reductions.specs.inside.Gathering.{after_values, values_of_bin}
use Rattle.reductions.proofs.bins.accumulate_each_value_in_its_bin.Given as goal

-- the bins so far, and the values that are left
abbrev pub invariant-loop-k : goal.invariant-loop-k
invariant-loop-k l =
    EachPlace (length l.bins) (λ j. after_values l.fn.op (at l.bins j)
    (values_of_bin (drop l.k l.values) (drop l.k l.bins_of) (l.fn.lo +ℤ pos j))
    ≡ after_values l.fn.op (at l.initial.bins j) (values_of_bin l.values l.bins_of (l.fn.lo +ℤ pos j)))
