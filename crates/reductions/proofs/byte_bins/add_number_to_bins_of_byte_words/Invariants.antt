use Rattle.std.proofs.Common.{◌≡◌, ◌+ℤ◌, ◌*◌, pos, drop, length}
use Rattle.job.specs.Totals.{joined}
use Rattle.operators.specs.declared.operator.ReductionOp.TheVariants.{Sum}
use Rattle.tile_eval.specs.Rows.{EachPlace, at}
use Rattle.reductions.specs.inside.Gathering.{after_values}
use Rattle.reductions.proofs.ByteWords.{counted}
use Rattle.reductions.proofs.byte_bins.add_number_to_bins_of_byte_words.Given as goal

-- both tables so far, and the bytes that are left
abbrev pub invariant-loop-word : goal.invariant-loop-word
invariant-loop-word l =
    EachPlace (length l.bins) (λ j. after_values Sum (joined Sum (at l.bins j) (at l.second j))
    (counted l.fn.number (drop (8 * l.word-index) l.fn.bytes) (pos 0 +ℤ pos j))
    ≡ after_values Sum (joined Sum (at l.initial.bins j) (at l.initial.second j)) (counted l.fn.number l.fn.bytes (pos 0 +ℤ pos j)))
