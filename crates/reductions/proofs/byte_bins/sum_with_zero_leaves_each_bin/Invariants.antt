use Rattle.std.proofs.Common.{◌≡◌, pos}
use Rattle.job.specs.Totals.{joined}
use Rattle.operators.specs.declared.operator.ReductionOp.TheVariants.{Sum}
use Rattle.tile_eval.specs.Rows.{EachPlace, at}
use Rattle.reductions.proofs.byte_bins.sum_with_zero_leaves_each_bin.Given as goal

-- the bins that were read
abbrev pub invariant-loop-j : goal.invariant-loop-j
invariant-loop-j l = EachPlace l.j (λ j. joined Sum (at l.bins j) (pos 0) ≡ at l.bins j)
