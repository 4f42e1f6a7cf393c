use Rattle.std.proofs.Common.{List, ℤ, sym, subst}
use Rattle.job.specs.Formula.{stencil}
use Rattle.joined_formulas.specs.Joins.{Joins}
use Rattle.joined_formulas.proofs.StageFormulas.{copied_stencil}
use Rattle.joined_formulas.proofs.joined.join_wide_stencil.Goals as goal

pub returns-in_ok-copy_kernel-in-Some : goal.returns-in_ok-copy_kernel-in-Some
returns-in_ok-copy_kernel-in-Some c =
    subst (λ (k : List (List ℤ)). Joins c.args.known.now (stencil c.args.stage c.args.divisor c.args.kernel.now)
    (stencil c.in-Some.source c.args.divisor k)) (sym c.in_ok-copy_kernel-in-Some.ensures)
    (copied_stencil c.args.known.now c.args.stage c.in-Some.source c.args.divisor c.args.kernel.now c.in-Some.ensures)
