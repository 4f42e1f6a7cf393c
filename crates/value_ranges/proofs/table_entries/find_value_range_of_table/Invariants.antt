use Rattle.std.proofs.Common.{ℕ, ◌<◌, pos}
use Rattle.std.specs.Prelude.{slice_index_or}
use Rattle.value_ranges.specs.Ranges.{InRange}
use Rattle.value_ranges.proofs.table_entries.find_value_range_of_table.Given as goal

abbrev pub invariant-loop-value : goal.invariant-loop-value
invariant-loop-value l = (b : ℕ) → b < l.value-index → InRange l.range (slice_index_or l.entries b (pos 0))
