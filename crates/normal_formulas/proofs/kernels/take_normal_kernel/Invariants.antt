use Rattle.std.proofs.Common.{◌≡◌, length}
use Rattle.std.specs.Prelude.{All}
use Rattle.job.specs.Formula.{Formula}
use Rattle.normal_formulas.specs.Rewrites.{Rewrites}
use Rattle.normal_formulas.specs.NormalSums.{terms_over}
use Rattle.normal_formulas.specs.NormalKernels.{rows_over, first_of}
use Rattle.normal_formulas.proofs.kernels.take_normal_kernel.Given as goal

abbrev pub invariant-loop-place : goal.invariant-loop-place
invariant-loop-place l =
    (length l.rows.items ≡ l.place)
    × All (λ row. length row ≡ l.kernel.width) l.rows.items
    × ((s : Formula) → Rewrites (terms_over s l.fn.terms.items)
    (rows_over (terms_over s l.terms.items) l.kernel.stage (first_of l.kernel.height) (first_of l.kernel.width) l.rows.items))
