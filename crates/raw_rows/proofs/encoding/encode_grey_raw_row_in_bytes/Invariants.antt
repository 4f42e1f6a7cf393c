-- What is written so far.
use Rattle.std.proofs.Common.{◌≡◌, map, take}
use Rattle.job.specs.Answers.{sample_of}
use Rattle.raw_rows.proofs.encoding.encode_grey_raw_row_in_bytes.Given as goal

abbrev pub invariant-loop-k : goal.invariant-loop-k
invariant-loop-k g l = take l.k l.out ≡ map (sample_of l.max) (take l.k (g.V.RawRowNumbers.numbers l.line))
