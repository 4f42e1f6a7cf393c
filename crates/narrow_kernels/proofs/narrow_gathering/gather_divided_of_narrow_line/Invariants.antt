use Rattle.std.proofs.Common.{◌≡◌, ◌+◌, ◌*◌, ◌/◌, ◌<◌}
use Rattle.row_loops.specs.Rows.{EachPlace, at}
use Rattle.narrow_kernels.proofs.narrow_gathering.gather_divided_of_narrow_line.Given as goal

abbrev pub invariant-loop-k : goal.invariant-loop-k
invariant-loop-k l =
    EachPlace l.k (λ k. at l.out k ≡ at l.line (l.from + (l.left + k * l.step) / l.divisor))
    × (l.gap * l.divisor + l.rest ≡ l.left + l.k * l.step)
    × (l.rest < l.divisor)
