-- Pieces of the rows of a stream, one after the other, are all that it has left.
use Rattle.std.proofs.Common.{◌≡◌, ℕ, ◌+◌, ◌-◌, ◌*◌, ◌≤◌, List, [], ◌++◌, length, Option, sym, ap, subst, ◌∙◌, arith}
use Rattle.command_faults.specs.Taking.{TakesAll, TakesPart}
use Rattle.job.specs.Kept.{pipeline_in}
use Rattle.job.specs.Pipeline.{Output, Pipeline}
use Rattle.job.specs.Views.{output_view}
use Rattle.raw_rows.specs.Rows.{bytes_per_row, raw_rows}
use Rattle.raw_rows.proofs.RowLaws.{raw_rows_joined, raw_rows_len}
use Rattle.row_streams.specs.declared.row_stream.RowStream.{RowStream}
use Rattle.streamed_results.specs.Pieces.{bytes_left, bytes_up_to}

rows_then : (job : Pipeline) (o : Output) (a b r : ℕ) → a ≤ b → b ≤ r → raw_rows job o a (b - a) ++ raw_rows job o b (r - b) ≡ raw_rows job o a (r - a)
rows_then job o a b r le up =
    let begin : b ≡ a + (b - a) = omega arith in
    let rest : (b - a) + (r - b) ≡ r - a = omega arith in
    ap (λ m. raw_rows job o a (b - a) ++ raw_rows job o m (r - b)) begin ∙ sym (raw_rows_joined job o a (b - a) (r - b))
    ∙ ap (raw_rows job o a) rest

-- the rows of a stream up to where another one of the same picture goes on, and those of that one
pub up_then : (s t : RowStream) (r : ℕ) → t.steps.job ≡ s.steps.job → t.output ≡ s.output → s.steps.row ≤ t.steps.row → t.steps.row ≤ r
    → bytes_up_to s t.steps.row ++ bytes_up_to t r ≡ bytes_up_to s r
up_then s t r job output le up =
    ap (λ kept. bytes_up_to s t.steps.row ++ raw_rows (pipeline_in kept.now) (output_view t.output.now) t.steps.row (r - t.steps.row)) job
    ∙ ap (λ kept. bytes_up_to s t.steps.row ++ raw_rows (pipeline_in s.steps.job.now) (output_view kept.now) t.steps.row (r - t.steps.row)) output
    ∙ rows_then (pipeline_in s.steps.job.now) (output_view s.output.now) s.steps.row t.steps.row r le up

-- and those behind
abbrev pub bytes_behind : RowStream → ℕ → List ℕ
bytes_behind s r = raw_rows (pipeline_in s.steps.job.now) (output_view s.output.now) r (s.steps.end - r)

pub up_behind : (s : RowStream) (r : ℕ) → s.steps.row ≤ r → r ≤ s.steps.end → bytes_up_to s r ++ bytes_behind s r ≡ bytes_left s
up_behind s r le up = rows_then (pipeline_in s.steps.job.now) (output_view s.output.now) s.steps.row r s.steps.end le up

-- none is given yet
pub up_none : (s : RowStream) → [] ≡ bytes_up_to s s.steps.row
up_none s =
    let none : 0 ≡ s.steps.row - s.steps.row = omega arith in ap (raw_rows (pipeline_in s.steps.job.now) (output_view s.output.now) s.steps.row) none

-- there are no more
pub up_all : (s : RowStream) (r : ℕ) → r - s.steps.row ≡ s.steps.end - s.steps.row → bytes_up_to s r ≡ bytes_left s
up_all s r e = ap (raw_rows (pipeline_in s.steps.job.now) (output_view s.output.now) s.steps.row) e

-- the bytes of so many rows of a stream
pub piece_len : (s : RowStream) (count len : ℕ) (piece : List ℕ) → piece ≡ raw_rows (pipeline_in s.steps.job.now) (output_view s.output.now) s.steps.row count
    → len ≡ count * bytes_per_row (pipeline_in s.steps.job.now) (output_view s.output.now) → length piece ≡ len
piece_len s count len piece is e =
    ap length is ∙ raw_rows_len (pipeline_in s.steps.job.now) (output_view s.output.now) s.formed s.steps.row count ∙ sym e

-- ---- the same bytes, taken

pub all_as : (bytes other : List ℕ) (a b : Option (List ℕ)) (n m : ℕ) → bytes ≡ other → TakesAll bytes a b n m → TakesAll other a b n m
all_as bytes other a b n m is taken = subst (λ l. TakesAll l a b n m) is taken

pub part_as : (bytes other : List ℕ) (a b : Option (List ℕ)) (n m : ℕ) → bytes ≡ other → TakesPart bytes a b n m → TakesPart other a b n m
part_as bytes other a b n m is taken = subst (λ l. TakesPart l a b n m) is taken
