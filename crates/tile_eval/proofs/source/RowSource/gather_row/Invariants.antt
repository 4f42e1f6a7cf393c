use Rattle.std.proofs.Common.{◌≡◌, ◌+ℤ◌, pos}
use Rattle.domains.specs.Index.{index_at}
use Rattle.row_loops.specs.Rows.{EachPlace, at}
use Rattle.tile_eval.proofs.source.RowSource.gather_row.Given as goal

abbrev pub invariant-loop-k : goal.invariant-loop-k
invariant-loop-k g l =
    EachPlace l.k (λ j. at l.out j ≡ g.Self.RowSource.samples l.fn.self l.fn.stage l.fn.row (index_at l.fn.col (l.fn.points.col +ℤ pos j)))
