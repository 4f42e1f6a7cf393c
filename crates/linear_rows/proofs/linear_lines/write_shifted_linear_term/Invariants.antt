use Rattle.std.proofs.Common.{◌≡◌, ◌+ℤ◌}
use Rattle.domains.specs.Arithmetic.{wrapped}
use Rattle.row_loops.specs.Rows.{EachPlace, at}
use Rattle.linear_rows.specs.inside.LinearSums.{shifted}
use Rattle.linear_rows.proofs.linear_lines.write_shifted_linear_term.Given as goal

abbrev pub invariant-loop-k : goal.invariant-loop-k
invariant-loop-k g l = EachPlace l.k (λ k. at l.out k ≡ shifted l.make (wrapped (l.number +ℤ g.T.LinearTerm.exact l.term k)))
