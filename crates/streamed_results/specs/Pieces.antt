-- Bytes that are still to be written.
use Rattle.std.specs.Prelude.{ℕ, ◌-◌, ◌*◌, ◌≤◌, List, length}
use Rattle.job.specs.Kept.{pipeline_in}
use Rattle.job.specs.Views.{output_view}
use Rattle.raw_rows.specs.Rows.{bytes_per_row, raw_rows}
use Rattle.row_streams.specs.declared.row_stream.RowStream.{RowStream}

-- the bytes of the rows that a stream has left
abbrev pub bytes_left : RowStream → List ℕ
bytes_left stream = raw_rows (pipeline_in stream.steps.job.now) (output_view stream.output.now) stream.steps.row (stream.steps.end - stream.steps.row)

-- those before another row
abbrev pub bytes_up_to : RowStream → ℕ → List ℕ
bytes_up_to stream row = raw_rows (pipeline_in stream.steps.job.now) (output_view stream.output.now) stream.steps.row (row - stream.steps.row)

-- so many rows of a stream have room in a buffer
abbrev pub HasPieceRoom : ℕ → RowStream → List ℕ → Type 0
HasPieceRoom rows stream buffer = rows * bytes_per_row (pipeline_in stream.steps.job.now) (output_view stream.output.now) ≤ length buffer
