-- What is written so far.
use Rattle.std.proofs.Common.{ℕ, ◌*◌, ◌<◌, pos, get_or}
use Rattle.job.specs.Answers.{sample_of}
use Rattle.raw_rows.proofs.Encoded.{ArePairAt}
use Rattle.raw_rows.proofs.encoding.encode_grey_raw_row_in_pairs.Given as goal

abbrev pub invariant-loop-k : goal.invariant-loop-k
invariant-loop-k g l =
    (k : ℕ) → k < l.k → ArePairAt l.out (2 * k) (sample_of l.max (get_or (g.V.RawRowNumbers.numbers l.line) k (pos 0)))
