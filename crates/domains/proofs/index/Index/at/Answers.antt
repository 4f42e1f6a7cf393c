use Rattle.std.proofs.Common.{rules, ◌∙◌, ◌≤ℤ◌, ℤ, pos, negsuc, ap, subst, sym, FitsSigned, w32}
use Rattle.std.proofs.lemmas.Int.{to_z-of_z}
use Rattle.domains.specs.Index.{IsIndex, index_at}
use Rattle.domains.proofs.Indices.{scaled_is, product_fits, sum_fits, index_within}
use Rattle.domains.proofs.index.Index.at.Goals as goal

pub returns-clause-value : goal.returns-clause-value
returns-clause-value c =
    let result : FitsSigned w32 c.divide_index_product.result = search rules in
    let v : FitsSigned w32 c.args.v = search rules in
    let mul : FitsSigned w32 c.self.inside.mul = search rules in
    let add : FitsSigned w32 c.self.inside.add = search rules in
    let div : FitsSigned w32 c.self.inside.div = search rules in
    let low = c.requires.least in
    let high = c.requires.most in
    to_z-of_z w32 _ result
    ∙ scaled_is _ _ _ _ _ mul v add div (product_fits _ c.args.v c.self.invariant low high) (sum_fits _ c.args.v c.self.invariant low high)
    c.divide_index_product.ensures
    ∙ ap (λ x. index_at x c.args.v) c.self.view_is

pub returns-clause-least : goal.returns-clause-least
returns-clause-least c =
    let index : IsIndex c.args.self.now = subst IsIndex c.self.view_is c.self.invariant in
    subst (λ (z : ℤ). negsuc 1048575 ≤ℤ z) (sym (returns-clause-value c))
    (index_within c.args.self.now c.args.v index c.requires.least c.requires.most).0

pub returns-clause-most : goal.returns-clause-most
returns-clause-most c =
    let index : IsIndex c.args.self.now = subst IsIndex c.self.view_is c.self.invariant in
    subst (λ (z : ℤ). z ≤ℤ pos 1048576) (sym (returns-clause-value c))
    (index_within c.args.self.now c.args.v index c.requires.least c.requires.most).1
