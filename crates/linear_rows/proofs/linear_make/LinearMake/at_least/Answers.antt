use Rattle.std.proofs.Common.{rules, ◌≡◌, ◌∙◌, ℤ, to_z, of_z, w32, FitsSigned}
use Rattle.std.specs.Int.{int_max}
use Rattle.std.proofs.lemmas.Int.{to_z-of_z}
use Rattle.domains.specs.Arithmetic.{clamped}
use Rattle.operators.specs.Values.{literal_value}
use Rattle.linear_rows.proofs.LinearMakes.{clamped_from, swapped_max}
use Rattle.linear_rows.proofs.linear_make.LinearMake.at_least.Goals as goal

pub returns-clause-right : goal.returns-clause-right
returns-clause-right c = λ s.
    let own = c.args.self in
    let v : ℤ = literal_value own.op s own.literal in
    let number : FitsSigned w32 c.args.number = search rules in
    let low : FitsSigned w32 own.low = search rules in
    let high : FitsSigned w32 own.high = search rules in
    let low_result : FitsSigned w32 c.max.result = search rules in
    let high_result : FitsSigned w32 c.max-2.result = search rules in
    let low_is = simp to_z-of_z at c.max.ensures.value in
    let high_is = simp to_z-of_z at c.max-2.ensures.value in
    let low_same : to_z w32 (of_z w32 c.max.result) ≡ int_max own.low c.args.number = to_z-of_z w32 _ low_result ∙ low_is in
    let high_same : to_z w32 (of_z w32 c.max-2.result) ≡ int_max own.high c.args.number = to_z-of_z w32 _ high_result ∙ high_is in
    (λ i. clamped v (low_same i) (high_same i)) ∙ clamped_from v own.low own.high c.args.number

pub returns-clause-left : goal.returns-clause-left
returns-clause-left c = λ s.
    returns-clause-right c s
    ∙ swapped_max (clamped (literal_value c.args.self.op s c.args.self.literal) c.args.self.low c.args.self.high) c.args.number
