use Rattle.std.proofs.Common.{rules, List, ◌≡◌, ◌+ℤ◌, ◌*ℤ◌, ℤ, ◌∙◌, ap, sym, FitsSigned, w16, w32}
use Rattle.std.proofs.lemmas.Int.{to_z-of_z}
use Rattle.domains.specs.Arithmetic.{wrapped}
use Rattle.job.specs.Values.{formula_value}
use Rattle.job.specs.Views.{formula_view}
use Rattle.job.specs.declared.formula.Formula.{Formula}
use Rattle.job.specs.declared.formula.Formula.TheVariants.{Unary, Binary}
use Rattle.operators.specs.declared.operator.UnaryOp.{UnaryOp}
use Rattle.operators.specs.declared.operator.UnaryOp.TheVariants.{Neg}
use Rattle.operators.specs.declared.operator.BinaryOp.{BinaryOp}
use Rattle.operators.specs.declared.operator.BinaryOp.TheVariants.{Add, Sub, Mul}
use Rattle.linear_rows.specs.inside.LinearSums.{taps_value, sum_value}
use Rattle.linear_rows.proofs.LinearValues.{negated_factor, number_more, negation_more, sum_more, difference_more, left_product_more, right_product_more}
use Rattle.linear_rows.proofs.linear_taps.LinearSum.+add_linear_formula.Goals as goal

pub add_linear_formula-returns-in-Number-clause-values :
    goal.add_linear_formula-returns-in-Number-clause-values
add_linear_formula-returns-in-Number-clause-values t c = λ env r k.
    let own = c.args.self.now in
    let factor : FitsSigned w16 c.args.factor = search rules in
    let n : FitsSigned w32 c.in-Number.number = search rules in
    let before : FitsSigned w32 own.number = search rules in
    let product : FitsSigned w32 c.wrapping_mul-more.result = search rules in
    let whole : FitsSigned w32 c.wrapping_add-self.result = search rules in
    let wide : FitsSigned w32 c.from.result = search rules in
    let from_is = simp to_z-of_z at c.from.ensures in
    let mul_is = simp to_z-of_z at c.wrapping_mul-more.ensures in
    let add_is = simp to_z-of_z at c.wrapping_add-self.ensures in
    number_more _ own.number (taps_value env own.taps.items r k) c.args.factor c.in-Number.number
    (to_z-of_z w32 c.wrapping_add-self.result whole ∙ add_is
    ∙ ap (λ (z : ℤ). wrapped (own.number +ℤ z)) (mul_is ∙ ap (λ (z : ℤ). wrapped (z *ℤ c.in-Number.number)) from_is))
    ∙ ap (λ (f : Formula). wrapped (sum_value env own r k +ℤ c.args.factor *ℤ formula_value env (formula_view f) r k)) (sym c.in-Number.is)

pub add_linear_formula-returns-in_ok-add_linear_formula-in-Unary-Neg-default-clause-values :
    goal.add_linear_formula-returns-in_ok-add_linear_formula-in-Unary-Neg-default-clause-values
add_linear_formula-returns-in_ok-add_linear_formula-in-Unary-Neg-default-clause-values t c = λ env r k.
    let f = c.args.factor in
    let factor : FitsSigned w16 c.args.factor = search rules in
    let s : ℤ = sum_value env c.args.self.now r k in
    let worth : Formula → ℤ = λ (x : Formula). formula_value env (formula_view x) r k in
    let kind = rw c.in-Unary-Neg-default.is at c.in-Unary-Neg-default.field-0-is in
    let told : c.args.formula.now ≡ Unary Neg c.in-Unary-Neg-default.of =
    c.in-Unary-Neg-default.is ∙ ap (λ (o : UnaryOp). Unary o c.in-Unary-Neg-default.of) kind in
    c.in_ok-add_linear_formula-in-Unary-Neg-default.ensures.values env r k
    ∙ (λ i. wrapped (s +ℤ negated_factor f factor c.requires i *ℤ worth (c.deref.ensures i)))
    ∙ negation_more s f (worth c.in-Unary-Neg-default.of.value)
    ∙ ap (λ (x : Formula). wrapped (s +ℤ f *ℤ worth x)) (sym told)

pub add_linear_formula-returns-in_ok-add_linear_formula-in-Binary-Add-default-default-2-clause-values :
    goal.add_linear_formula-returns-in_ok-add_linear_formula-in-Binary-Add-default-default-2-clause-values
add_linear_formula-returns-in_ok-add_linear_formula-in-Binary-Add-default-default-2-clause-values t c = λ env r k.
    let f = c.args.factor in
    let factor : FitsSigned w16 c.args.factor = search rules in
    let s : ℤ = sum_value env c.args.self.now r k in
    let worth : Formula → ℤ = λ (x : Formula). formula_value env (formula_view x) r k in
    let kind = rw c.in-Binary-Add-default-default.is at c.in-Binary-Add-default-default.field-0-is in
    let told : c.args.formula.now ≡ Binary Add c.in-Binary-Add-default-default.a c.in-Binary-Add-default-default.b =
    c.in-Binary-Add-default-default.is ∙ ap (λ (o : BinaryOp). Binary o c.in-Binary-Add-default-default.a c.in-Binary-Add-default-default.b) kind in
    sum_more s (sum_value env c.add_linear_formula-in-Binary-Add-default-default.new.self r k) (sum_value env c.add_linear_formula-in-Binary-Add-default-default-2.new.self r k)
    f (worth c.in-Binary-Add-default-default.a.value) (worth c.in-Binary-Add-default-default.b.value)
    (c.in_ok-add_linear_formula-in-Binary-Add-default-default.ensures.values env r k
    ∙ (λ i. wrapped (s +ℤ to_z-of_z w16 f factor i *ℤ worth (c.deref-in-Binary-Add-default-default.ensures i))))
    (c.in_ok-add_linear_formula-in-Binary-Add-default-default-2.ensures.values env r k
    ∙ (λ i. wrapped (sum_value env c.add_linear_formula-in-Binary-Add-default-default.new.self r k +ℤ to_z-of_z w16 f factor i *ℤ worth (c.deref-in-Binary-Add-default-default-2.ensures i))))
    ∙ ap (λ (x : Formula). wrapped (s +ℤ f *ℤ worth x)) (sym told)

pub add_linear_formula-returns-in_ok-add_linear_formula-in-Binary-Sub-default-default-2-clause-values :
    goal.add_linear_formula-returns-in_ok-add_linear_formula-in-Binary-Sub-default-default-2-clause-values
add_linear_formula-returns-in_ok-add_linear_formula-in-Binary-Sub-default-default-2-clause-values t c = λ env r k.
    let f = c.args.factor in
    let factor : FitsSigned w16 c.args.factor = search rules in
    let s : ℤ = sum_value env c.args.self.now r k in
    let worth : Formula → ℤ = λ (x : Formula). formula_value env (formula_view x) r k in
    let kind = rw c.in-Binary-Sub-default-default.is at c.in-Binary-Sub-default-default.field-0-is in
    let told : c.args.formula.now ≡ Binary Sub c.in-Binary-Sub-default-default.a c.in-Binary-Sub-default-default.b =
    c.in-Binary-Sub-default-default.is ∙ ap (λ (o : BinaryOp). Binary o c.in-Binary-Sub-default-default.a c.in-Binary-Sub-default-default.b) kind in
    difference_more s (sum_value env c.add_linear_formula-in-Binary-Sub-default-default.new.self r k) (sum_value env c.add_linear_formula-in-Binary-Sub-default-default-2.new.self r k)
    f (worth c.in-Binary-Sub-default-default.a.value) (worth c.in-Binary-Sub-default-default.b.value)
    (c.in_ok-add_linear_formula-in-Binary-Sub-default-default.ensures.values env r k
    ∙ (λ i. wrapped (s +ℤ to_z-of_z w16 f factor i *ℤ worth (c.deref-in-Binary-Sub-default-default.ensures i))))
    (c.in_ok-add_linear_formula-in-Binary-Sub-default-default-2.ensures.values env r k
    ∙ (λ i. wrapped (sum_value env c.add_linear_formula-in-Binary-Sub-default-default.new.self r k +ℤ negated_factor f factor c.requires i *ℤ worth (c.deref-in-Binary-Sub-default-default-2.ensures i))))
    ∙ ap (λ (x : Formula). wrapped (s +ℤ f *ℤ worth x)) (sym told)

pub add_linear_formula-returns-in_ok-add_linear_product-in-Some-default-clause-values :
    goal.add_linear_formula-returns-in_ok-add_linear_product-in-Some-default-clause-values
add_linear_formula-returns-in_ok-add_linear_product-in-Some-default-clause-values t c = λ env r k.
    let f = c.args.factor in
    let factor : FitsSigned w16 c.args.factor = search rules in
    let s : ℤ = sum_value env c.args.self.now r k in
    let worth : Formula → ℤ = λ (x : Formula). formula_value env (formula_view x) r k in
    let kind = rw c.in-Binary-Mul-default-default.is at c.in-Binary-Mul-default-default.field-0-is in
    let told : c.args.formula.now ≡ Binary Mul c.in-Binary-Mul-default-default.a c.in-Binary-Mul-default-default.b =
    c.in-Binary-Mul-default-default.is ∙ ap (λ (o : BinaryOp). Binary o c.in-Binary-Mul-default-default.a c.in-Binary-Mul-default-default.b) kind in
    let n : ℤ = c.in-Some-default.number in
    let number : FitsSigned w32 c.in-Some-default.number = search rules in
    c.in_ok-add_linear_product-in-Some-default.ensures.values env r k
    ∙ (λ i. wrapped (s +ℤ to_z-of_z w16 f factor i *ℤ to_z-of_z w32 n number i *ℤ worth (c.deref-in-Some-default.ensures i)))
    ∙ left_product_more s f n (worth c.in-Binary-Mul-default-default.b.value)
    ∙ ap (λ (z : ℤ). wrapped (s +ℤ f *ℤ wrapped (z *ℤ worth c.in-Binary-Mul-default-default.b.value)))
    (sym (c.in-Some-default.ensures.value env r k) ∙ ap worth c.deref-in-Binary-Mul-default-default.ensures)
    ∙ ap (λ (x : Formula). wrapped (s +ℤ f *ℤ worth x)) (sym told)

pub add_linear_formula-returns-in_ok-add_linear_product-in-None-Some-clause-values :
    goal.add_linear_formula-returns-in_ok-add_linear_product-in-None-Some-clause-values
add_linear_formula-returns-in_ok-add_linear_product-in-None-Some-clause-values t c = λ env r k.
    let f = c.args.factor in
    let factor : FitsSigned w16 c.args.factor = search rules in
    let s : ℤ = sum_value env c.args.self.now r k in
    let worth : Formula → ℤ = λ (x : Formula). formula_value env (formula_view x) r k in
    let kind = rw c.in-Binary-Mul-default-default.is at c.in-Binary-Mul-default-default.field-0-is in
    let told : c.args.formula.now ≡ Binary Mul c.in-Binary-Mul-default-default.a c.in-Binary-Mul-default-default.b =
    c.in-Binary-Mul-default-default.is ∙ ap (λ (o : BinaryOp). Binary o c.in-Binary-Mul-default-default.a c.in-Binary-Mul-default-default.b) kind in
    let n : ℤ = c.in-None-Some.number in
    let number : FitsSigned w32 c.in-None-Some.number = search rules in
    c.in_ok-add_linear_product-in-None-Some.ensures.values env r k
    ∙ (λ i. wrapped (s +ℤ to_z-of_z w16 f factor i *ℤ to_z-of_z w32 n number i *ℤ worth (c.deref-in-None-Some.ensures i)))
    ∙ right_product_more s f n (worth c.in-Binary-Mul-default-default.a.value)
    ∙ ap (λ (z : ℤ). wrapped (s +ℤ f *ℤ wrapped (worth c.in-Binary-Mul-default-default.a.value *ℤ z)))
    (sym (c.in-None-Some.ensures'.value env r k) ∙ ap worth c.deref-in-Binary-Mul-default-default-2.ensures)
    ∙ ap (λ (x : Formula). wrapped (s +ℤ f *ℤ worth x)) (sym told)
