use Rattle.std.proofs.Common.{◌≡◌, ◌+ℤ◌, ℤ, List, pos, drop, length, replicate}
use Rattle.operators.specs.declared.operator.ReductionOp.TheVariants.{Sum}
use Rattle.tile_eval.specs.Rows.{EachPlace, at}
use Rattle.reductions.specs.inside.Gathering.{after_values, values_of_bin}
use Rattle.reductions.proofs.known_bins.add_number_to_known_bin_of_each_point.Given as goal

-- the bins so far, and the points that are left
abbrev pub invariant-loop-k : goal.invariant-loop-k
invariant-loop-k l =
    let all : List ℤ = replicate (length l.bins_of) l.fn.number in
    EachPlace (length l.bins) (λ j. after_values Sum (at l.bins j)
    (values_of_bin (drop l.k all) (drop l.k l.bins_of) (l.fn.lo +ℤ pos j))
    ≡ after_values Sum (at l.initial.bins j) (values_of_bin all l.bins_of (l.fn.lo +ℤ pos j)))
