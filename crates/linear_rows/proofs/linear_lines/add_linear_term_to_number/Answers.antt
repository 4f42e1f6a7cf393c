use Rattle.std.proofs.Common.{rules, refl, w32, FitsSigned, ◌∙◌}
use Rattle.std.proofs.lemmas.Int.{to_z-of_z}
use Rattle.linear_rows.proofs.LinearWraps.{wrapped_right}
use Rattle.linear_rows.proofs.linear_lines.add_linear_term_to_number.Goals as goal

pub returns : goal.returns
returns g c =
    let given : FitsSigned w32 c.args.sum = search rules in
    let term : FitsSigned w32 c.compute_linear_term.result = search rules in
    let both : FitsSigned w32 c.wrapping_add.result = search rules in
    let sum = simp to_z-of_z at c.wrapping_add.ensures in
    to_z-of_z w32 c.wrapping_add.result both ∙ sum
    ∙ wrapped_right c.args.sum c.args.sum c.compute_linear_term.result (g.T.LinearTerm.exact c.args.term c.args.k) refl c.compute_linear_term.ensures
