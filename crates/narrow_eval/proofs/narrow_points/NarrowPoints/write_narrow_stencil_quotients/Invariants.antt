use Rattle.std.proofs.Common.{◌+ℤ◌, pos, length}
use Rattle.narrow_eval.specs.NarrowStencils.{rows_below}
use Rattle.narrow_sums.specs.NarrowSums.{HasAddends, GivesSum}
use Rattle.narrow_eval.proofs.narrow_points.NarrowPoints.write_narrow_stencil_quotients.Given as goal

abbrev pub invariant-loop-a : goal.invariant-loop-a
invariant-loop-a g l =
    HasAddends (length l.out) l.sum
    × GivesSum (length l.out) (λ k. rows_below l.a l.fn.kernel (g.S.NarrowSource.samples l.fn.self.source.now l.fn.stage)
    l.fn.self.points.row (l.fn.self.points.col +ℤ pos k)) l.sum l.out
