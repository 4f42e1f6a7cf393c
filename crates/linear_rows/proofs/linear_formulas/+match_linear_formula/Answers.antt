use Rattle.std.proofs.Common.{rules, ◌∙◌, ℤ, ap, w32, to_z, of_z, FitsSigned}
use Rattle.std.specs.Int.{int_min, int_max}
use Rattle.std.proofs.lemmas.Int.{to_z-of_z}
use Rattle.job.specs.Values.{formula_value}
use Rattle.job.specs.Views.{formula_view}
use Rattle.linear_rows.proofs.linear_formulas.+match_linear_formula.Goals as goal

pub match_linear_clamp-returns-clause-made : goal.match_linear_clamp-returns-clause-made
match_linear_clamp-returns-clause-made t c = λ env r k.
    let v : ℤ = formula_value env (formula_view c.args.of.now) r k in
    let low : FitsSigned w32 c.args.low = search rules in
    let high : FitsSigned w32 c.args.high = search rules in
    c.at_most.ensures.right (formula_value env (formula_view c.in_ok-sum.sum.now) r k)
    ∙ ap (λ (z : ℤ). int_min z (to_z w32 (of_z w32 c.args.high))) (c.in_ok-sum.ensures.made env r k)
    ∙ (λ i. int_min (int_max v (to_z-of_z w32 c.args.low low i)) (to_z-of_z w32 c.args.high high i))
