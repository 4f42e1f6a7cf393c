use Rattle.std.proofs.Common.{rules, ◌≡◌, ◌*ℤ◌, ◌+ℤ◌, pos, FitsSigned, w32, ap, ◌∙◌}
use Rattle.std.proofs.lemmas.Int.{to_z-of_z}
use Rattle.domains.specs.Index.{Scale}
use Rattle.joined_formulas.proofs.Composed.{after_undivided, some_then}
use Rattle.joined_formulas.proofs.indices.compose_undivided_joined_index.Goals as goal

pub returns-clause-at : goal.returns-clause-at
returns-clause-at c =
    let outer : Scale = c.args.outer.now in
    let inner : Scale = c.args.inner.now in
    let one : outer.div ≡ pos 1 = search rules in
    let mul : c.in_ok-mul.mul ≡ inner.mul *ℤ outer.mul = search rules in
    let add : c.in_ok-checked_add.field-0 ≡ inner.mul *ℤ outer.add +ℤ inner.add = search rules in
    let div : c.div-2.result ≡ inner.div = search rules in
    let mul_fits : FitsSigned w32 c.in_ok-mul.mul = search rules in
    let add_fits : FitsSigned w32 c.in_ok-checked_add.field-0 = search rules in
    let div_fits : FitsSigned w32 c.div-2.result = search rules in
    some_then c.new.result c.new.ensures.some (λ x e v.
    after_undivided x outer inner v one (ap (λ (s : Scale). s.mul) e ∙ to_z-of_z w32 c.in_ok-mul.mul mul_fits ∙ mul) (ap (λ (s : Scale). s.add) e ∙ to_z-of_z w32 c.in_ok-checked_add.field-0 add_fits ∙ add)
    (ap (λ (s : Scale). s.div) e ∙ to_z-of_z w32 c.div-2.result div_fits ∙ div))
