use Rattle.std.proofs.Common.{◌≡◌, length}
use Rattle.job.specs.Formula.{Formula}
use Rattle.normal_formulas.specs.Rewrites.{Rewrites}
use Rattle.normal_formulas.specs.NormalSums.{terms_over}
use Rattle.normal_formulas.specs.NormalKernels.{row_over, first_of}
use Rattle.normal_formulas.proofs.kernels.take_normal_factors.Given as goal

abbrev pub invariant-loop-place : goal.invariant-loop-place
invariant-loop-place l =
    (length l.factors.items ≡ l.place)
    × ((s : Formula) → Rewrites (terms_over s l.fn.terms.items)
    (row_over (terms_over s l.terms.items) l.kernel.stage l.row (first_of l.kernel.width) l.factors.items))
