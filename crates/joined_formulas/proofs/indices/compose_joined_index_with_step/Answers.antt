use Rattle.std.proofs.Common.{rules, arith, ◌≡◌, ◌*ℤ◌, ◌+ℤ◌, ◌<ℤ◌, pos, FitsSigned, w32, ap, ◌∙◌}
use Rattle.std.proofs.lemmas.Int.{ints, to_z-of_z}
use Rattle.domains.specs.Index.{Scale}
use Rattle.joined_formulas.proofs.Composed.{before_step, some_then}
use Rattle.joined_formulas.proofs.indices.compose_joined_index_with_step.Goals as goal

pub returns-clause-at : goal.returns-clause-at
returns-clause-at c =
    let outer : Scale = c.args.outer.now in
    let inner : Scale = c.args.inner.now in
    let least = c.div-2.ensures.within.div_least in
    let above : pos 0 <ℤ outer.div = omega (arith, ints, least) in
    let one : inner.mul ≡ pos 1 = search rules in
    let undivided : inner.div ≡ pos 1 = search rules in
    let mul : c.mul-2.result ≡ outer.mul = search rules in
    let add : c.in_ok-checked_add.field-0 ≡ outer.add +ℤ inner.add *ℤ outer.div = search rules in
    let div : c.div-3.result ≡ outer.div = search rules in
    let mul_fits : FitsSigned w32 c.mul-2.result = search rules in
    let add_fits : FitsSigned w32 c.in_ok-checked_add.field-0 = search rules in
    let div_fits : FitsSigned w32 c.div-3.result = search rules in
    some_then c.new.result c.new.ensures.some (λ x e v.
    before_step x outer inner v above one undivided (ap (λ (s : Scale). s.mul) e ∙ to_z-of_z w32 c.mul-2.result mul_fits ∙ mul) (ap (λ (s : Scale). s.add) e ∙ to_z-of_z w32 c.in_ok-checked_add.field-0 add_fits ∙ add)
    (ap (λ (s : Scale). s.div) e ∙ to_z-of_z w32 c.div-3.result div_fits ∙ div))
