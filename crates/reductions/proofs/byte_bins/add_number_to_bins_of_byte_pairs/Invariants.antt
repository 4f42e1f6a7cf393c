use Rattle.std.proofs.Common.{◌≡◌, ◌+ℤ◌, ◌*◌, ℤ, List, pos, drop, length, replicate}
use Rattle.std.specs.Prelude.{map}
use Rattle.job.specs.Totals.{joined}
use Rattle.operators.specs.declared.operator.ReductionOp.TheVariants.{Sum}
use Rattle.tile_eval.specs.Rows.{EachPlace, at}
use Rattle.reductions.specs.inside.Gathering.{after_values, values_of_bin}
use Rattle.reductions.proofs.byte_bins.add_number_to_bins_of_byte_pairs.Given as goal

-- both tables so far, and the points that are left
abbrev pub invariant-loop-k : goal.invariant-loop-k
invariant-loop-k l =
    let all : List ℤ = replicate (length l.bytes) l.fn.number in
    let places : List ℤ = map pos l.bytes in
    EachPlace (length l.bins) (λ j. after_values Sum (joined Sum (at l.bins j) (at l.second j))
    (values_of_bin (drop (2 * l.k) all) (drop (2 * l.k) places) (pos 0 +ℤ pos j))
    ≡ after_values Sum (joined Sum (at l.initial.bins j) (at l.initial.second j)) (values_of_bin all places (pos 0 +ℤ pos j)))
