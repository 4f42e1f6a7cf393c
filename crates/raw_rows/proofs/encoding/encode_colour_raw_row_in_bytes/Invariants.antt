-- What is written so far.
use Rattle.std.proofs.Common.{ℕ, ◌*◌, ◌<◌, pos, get_or}
use Rattle.job.specs.Answers.{sample_of}
use Rattle.raw_rows.proofs.Encoded.{AreBytesAt}
use Rattle.raw_rows.proofs.encoding.encode_colour_raw_row_in_bytes.Given as goal

abbrev pub invariant-loop-k : goal.invariant-loop-k
invariant-loop-k g l =
    let numbers = g.V.RawRowNumbers.numbers in
    (k : ℕ) → k < l.k
    → AreBytesAt l.out (3 * k) (sample_of l.max (get_or (numbers l.red) k (pos 0))) (sample_of l.max (get_or (numbers l.green) k (pos 0)))
    (sample_of l.max (get_or (numbers l.blue) k (pos 0)))
