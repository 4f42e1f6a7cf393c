use Rattle.std.proofs.Common.{rules, arith, ℕ, ℤ, ◌≡◌, ◌<◌, ◌+◌, ◌-◌, ◌+ℤ◌, ◌∙◌, pos, suc, List, length, ap, sym, subst}
use Rattle.std.specs.Prelude.{IsTrue, IsFalse}
use Rattle.domains.specs.Arithmetic.{wrapped}
use Rattle.row_loops.specs.Rows.{at}
use Rattle.tile_eval.specs.inside.Stencil.{row_sum}
use Rattle.tile_eval.proofs.RowPairs.{added, first_added, both_added, all_added}
use Rattle.tile_eval.proofs.source_row.SourceRow.evaluate_stencil_sums_by_kernel_rows.Goals as goal
use Rattle.tile_eval.proofs.source_row.SourceRow.evaluate_stencil_sums_by_kernel_rows.Goals.{then-a-last+then-try_sums_of_equal_kernel_rows, else-a-last, else-a-last-via-then-a-last+else-try_sums_of_equal_kernel_rows, else-a-last-via-else-a-last}

pub loop-a-preserved : goal.loop-a-preserved
loop-a-preserved g c =
    let own = c.loop-a in
    let kernel = c.args.kernel.now in
    let height = length kernel in
    let points = c.args.self.now.points in
    let row : ℕ → ℕ → ℤ = λ k. row_sum kernel (g.S.RowSource.samples c.args.self.now.source.now c.args.stage) points.row (points.col +ℤ pos k) in
    let one : suc own.a ≡ own.a + 1 = omega arith in
    let begun : own.a < own.end = omega arith in
    elim c.if-a-last.branch [
      | then-a-last+then-try_sums_of_equal_kernel_rows w ↦
          let yes : IsTrue w.try_sums_of_equal_kernel_rows.result = search rules in
          let shorter : own.end ≡ suc (own.end - 1) = omega (arith, begun) in
          record {
            order = omega arith;
            within = omega arith;
            sums = λ k h.
                let lt : k < length own.out = omega arith in
                ap (λ (xs : List ℤ). at xs k) w.out-is
                ∙ both_added (row k) height own.a (own.end - 1) own.end _ shorter own.invariant.within
                (w.try_sums_of_equal_kernel_rows.ensures.added yes k lt _ (own.invariant.sums k lt))
                ∙ (λ i. wrapped (added (row k) height (one i) (sym w.end-is i)));
          }
      | else-a-last w ↦
          let kept : w.else-a-last.out ≡ own.out = elim w.else-a-last.branch [
            | else-a-last-via-then-a-last+else-try_sums_of_equal_kernel_rows v ↦
                let no : IsFalse v.try_sums_of_equal_kernel_rows.result = search rules in
                v.out-is ∙ v.try_sums_of_equal_kernel_rows.ensures.nothing no
            | else-a-last-via-else-a-last v ↦ v.out-is
          ] in
          record {
            order = omega arith;
            within = omega arith;
            sums = λ k h.
                let lt : k < length w.else-a-last.out = omega arith in
                let old : k < length own.out = subst (λ (xs : List ℤ). k < length xs) kept lt in
                ap (λ (xs : List ℤ). at xs k) w.out-is
                ∙ first_added (row k) height own.a own.end _
                (w.add_kernel_row_sums.ensures k lt _ (ap (λ (xs : List ℤ). at xs k) kept ∙ own.invariant.sums k old))
                ∙ (λ i. wrapped (added (row k) height (one i) (sym w.end-is i)));
          }
    ]

pub returns : goal.returns
returns g c = λ k h.
    let own = c.loop-a in
    let points = c.args.self.now.points in
    let lt : k < length own.out = omega arith in
    let all : own.a ≡ own.end = omega arith in
    all_added (row_sum c.args.kernel.now (g.S.RowSource.samples c.args.self.now.source.now c.args.stage) points.row (points.col +ℤ pos k))
    (length c.args.kernel.now) own.a own.end _ all own.invariant.within (own.invariant.sums k lt)
