use Rattle.std.proofs.Common.{◌≡◌, ◌≤◌, ◌-◌, ◌+ℤ◌, pos, length}
use Rattle.domains.specs.Arithmetic.{wrapped}
use Rattle.row_loops.specs.Rows.{EachPlace, at}
use Rattle.tile_eval.specs.inside.Stencil.{row_sum}
use Rattle.tile_eval.proofs.RowPairs.{added}
use Rattle.tile_eval.proofs.source_row.SourceRow.evaluate_stencil_sums_by_kernel_rows.Given as goal

abbrev pub invariant-loop-a : goal.invariant-loop-a
invariant-loop-a g l = record {
  order : l.a ≤ l.end;
  within : l.end ≤ length l.fn.kernel;
  sums : EachPlace (length l.out) (λ k. at l.out k ≡ wrapped (added (row_sum l.fn.kernel
      (g.S.RowSource.samples l.fn.self.source.now l.fn.stage) l.fn.self.points.row (l.fn.self.points.col +ℤ pos k)) (length l.fn.kernel) l.a l.end));
}

abbrev pub decreases-loop-a : goal.decreases-loop-a
decreases-loop-a g l = l.end - l.a
