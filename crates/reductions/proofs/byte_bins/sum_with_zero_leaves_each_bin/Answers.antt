use Rattle.std.proofs.Common.{rules, arith, inl, inr, ℕ, ◌≡◌, ◌<◌, ◌+◌, pos, w64, FitsSigned, subst, sym}
use Rattle.std.specs.Prelude.{◌⊎◌}
use Rattle.std.proofs.lemmas.Bool.{cases_eq}
use Rattle.operators.specs.declared.operator.ReductionOp.TheVariants.{Sum}
use Rattle.job.specs.Totals.{joined}
use Rattle.tile_eval.specs.Rows.{at}
use Rattle.reductions.proofs.TwoTables.{with_nothing}
use Rattle.reductions.proofs.byte_bins.sum_with_zero_leaves_each_bin.Goals as goal

pub loop-j-preserved : goal.loop-j-preserved
loop-j-preserved c = λ k h. by k h (cases_eq k c.loop-j.j)
  where
    fits : FitsSigned w64 (at c.args.bins.now c.loop-j.j)
    fits = search rules

    by : (k : ℕ) → k < c.loop-j.j + 1 → (k ≡ c.loop-j.j) ⊎ (k ≡ c.loop-j.j → ⊥) → joined Sum (at c.args.bins.now k) (pos 0) ≡ at c.args.bins.now k
    by k h (inl same) = subst (λ (m : ℕ). joined Sum (at c.args.bins.now m) (pos 0) ≡ at c.args.bins.now m) (sym same) (with_nothing (at c.args.bins.now c.loop-j.j) fits)
    by k h (inr other) = c.loop-j.invariant k (omega (arith, h, other))
