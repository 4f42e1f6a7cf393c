use Rattle.std.proofs.Common.{rules, w32, FitsSigned, ◌∙◌}
use Rattle.std.proofs.lemmas.Int.{to_z-of_z}
use Rattle.linear_rows.proofs.LinearWraps.{wrapped_sum}
use Rattle.linear_rows.proofs.linear_lines.LinearPairLinearTerm.compute_linear_term.Goals as goal

pub returns : goal.returns
returns g c =
    let one : FitsSigned w32 c.compute_linear_term.result = search rules in
    let two : FitsSigned w32 c.compute_linear_term-2.result = search rules in
    let both : FitsSigned w32 c.wrapping_add.result = search rules in
    let sum = simp to_z-of_z at c.wrapping_add.ensures in
    to_z-of_z w32 c.wrapping_add.result both ∙ sum
    ∙ wrapped_sum c.compute_linear_term.result c.compute_linear_term-2.result
    (g.S.LinearTerm.exact c.args.self.now.0 c.args.k) (g.T.LinearTerm.exact c.args.self.now.1 c.args.k)
    c.compute_linear_term.ensures c.compute_linear_term-2.ensures
