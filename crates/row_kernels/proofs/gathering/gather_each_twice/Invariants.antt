use Rattle.std.proofs.Common.{◌≡◌, ◌+◌, ◌*◌, ◌/◌}
use Rattle.row_loops.specs.Rows.{EachPlace, at}
use Rattle.row_kernels.proofs.gathering.gather_each_twice.Given as goal

abbrev pub invariant-loop-k : goal.invariant-loop-k
invariant-loop-k g l =
    EachPlace (l.left + 2 * l.k) (λ j. at l.out j ≡ g.V.RowNumbers.number l.numbers (l.place + (l.left + j) / 2))
