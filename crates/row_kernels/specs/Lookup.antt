-- The entry of a table that an index takes, over borrowed entries: the index is clamped to the table's span.
use Rattle.std.specs.Prelude.{ℤ, List}
use Rattle.std.specs.Int.{int_gap}
use Rattle.domains.specs.Arithmetic.{clamped}
use Rattle.domains.specs.Span.{Ends}
use Rattle.row_loops.specs.Rows.{at}

abbrev pub entry_of : Ends → List ℤ → ℤ → ℤ
entry_of span values v = at values (int_gap span.lo (clamped v span.lo span.hi))
