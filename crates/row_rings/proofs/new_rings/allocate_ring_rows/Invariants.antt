use Rattle.std.proofs.Common.{◌≡◌, All, length}
use Rattle.row_rings.proofs.new_rings.allocate_ring_rows.Given as goal

abbrev pub invariant-loop : goal.invariant-loop
invariant-loop g l = (length l.rows.items ≡ l.counter) × All (λ row. length row.items ≡ l.width) l.rows.items
