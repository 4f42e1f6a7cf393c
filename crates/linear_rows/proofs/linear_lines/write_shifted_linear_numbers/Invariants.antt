use Rattle.std.proofs.Common.{◌≡◌}
use Rattle.row_loops.specs.Rows.{EachPlace, at}
use Rattle.linear_rows.specs.inside.LinearSums.{shifted}
use Rattle.linear_rows.proofs.linear_lines.write_shifted_linear_numbers.Given as goal

abbrev pub invariant-loop-k : goal.invariant-loop-k
invariant-loop-k l = EachPlace l.k (λ k. at l.out k ≡ shifted l.make (at l.line k))
