-- What a result that is written while it is made writes.
use Rattle.std.specs.Prelude.{ℕ, List, ◌++◌}
use Rattle.row_streams.specs.StripsMade.{strips_joined}
use Rattle.streamed_results.specs.Pieces.{bytes_left}
use Rattle.streamed_results.specs.declared.result.StreamedResult.{StreamedResult}
use Rattle.streamed_results.specs.declared.result.StreamedResultRows.{StreamedResultRows}
use Rattle.streamed_results.specs.declared.result.StreamedResultRows.TheVariants.{Pieces, Strips}

abbrev pub rows_bytes : StreamedResultRows → List ℕ
rows_bytes (Pieces pieces) = bytes_left pieces.stream
rows_bytes (Strips strips) = strips_joined strips.items

-- the header and the rows behind it, and then the lines of accumulators
abbrev pub streamed_bytes : StreamedResult → List ℕ
streamed_bytes made = (made.header.items ++ rows_bytes made.rows) ++ made.lines.items
