use Rattle.std.proofs.Common.{◌≡◌, ◌+◌, ◌*◌, ◌/◌}
use Rattle.row_loops.specs.Rows.{EachPlace, at}
use Rattle.narrow_kernels.proofs.narrow_gathering.gather_each_twice_of_narrow_line.Given as goal

abbrev pub invariant-loop-k : goal.invariant-loop-k
invariant-loop-k l = EachPlace (l.left + 2 * l.k) (λ j. at l.out j ≡ at l.line (l.from + (l.left + j) / 2))
