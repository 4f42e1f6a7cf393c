use Rattle.std.proofs.Common.{◌≡◌, ◌+◌, ◌*◌}
use Rattle.row_loops.specs.Rows.{EachPlace, at}
use Rattle.row_kernels.proofs.gathering.gather_every_second.Given as goal

abbrev pub invariant-loop-k : goal.invariant-loop-k
invariant-loop-k g l = EachPlace l.k (λ k. at l.out k ≡ g.V.RowNumbers.number l.numbers (l.place + k * 2))
