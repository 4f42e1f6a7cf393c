use Rattle.std.proofs.Common.{◌∙◌, ℤ, sym}
use Rattle.domains.specs.Arithmetic.{clamped}
use Rattle.job.specs.Values.{formula_value}
use Rattle.job.specs.Views.{formula_view}
use Rattle.operators.specs.Values.{literal_value}
use Rattle.linear_rows.proofs.LinearMakes.{quotient_bounded}
use Rattle.linear_rows.proofs.linear_formulas.match_linear_quotient.Goals as goal

pub returns-then-is_joined_linear_sum-clause-made : goal.returns-then-is_joined_linear_sum-clause-made
returns-then-is_joined_linear_sum-clause-made c = λ env r k.
    let m = c.new.result in
    let s : ℤ = formula_value env (formula_view c.args.of.now) r k in
    (λ i. clamped (literal_value (c.new.ensures.op i) s (c.new.ensures.literal i)) (c.new.ensures.low i) (c.new.ensures.high i))
    ∙ quotient_bounded env r k (formula_view c.args.of.now) c.args.op c.args.literal (sym c.is_linear_division.ensures ∙ c.if-is_linear_division.true)
    (sym c.is_joined_linear_sum.ensures ∙ c.if-is_joined_linear_sum.true)
