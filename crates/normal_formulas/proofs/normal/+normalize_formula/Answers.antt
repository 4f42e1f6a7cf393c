use Rattle.std.proofs.Common.{ℤ, rules, List, ◌≡◌, ◌+ℤ◌, pos, FitsSigned, w32, to_z, of_z, ap, sym, subst, ◌∙◌}
use Rattle.std.proofs.lemmas.Int.{to_z-of_z}
use Rattle.domains.specs.Arithmetic.{wrapped}
use Rattle.domains.proofs.Places.{ok_then}
use Rattle.operators.specs.declared.operator.UnaryOp.TheVariants.{Neg}
use Rattle.operators.specs.declared.operator.BinaryOp.TheVariants.{Add, Sub, Mul}
use Rattle.operators.specs.declared.operator.LiteralOp.TheVariants.{Shl}
use Rattle.job.specs.Formula.{Formula, number, read, unary, binary, ternary, literal, lookup, select, stencil}
use Rattle.job.specs.Views.{formula_view}
use Rattle.normal_formulas.specs.Rewrites.{Rewrites}
use Rattle.normal_formulas.specs.NormalSums.{product, terms_over, sum_formula}
use Rattle.normal_formulas.specs.declared.sums.NormalTerm.{NormalTerm}
use Rattle.normal_formulas.proofs.Rewriting.{same, steps, from_same, on_ok_then, unary_part, binary_parts, ternary_parts, literal_part, lookup_part, select_parts}
use Rattle.normal_formulas.proofs.SumValues.{taken_sum, taken_product, taken_negation, taken_shift}
use Rattle.normal_formulas.proofs.SumLaws.{number_more, sum_more, difference_more, negation_more, left_product_more, right_product_more, shift_more, part_more, taken_factor, sum_of_formula}
use Rattle.normal_formulas.proofs.normal.+normalize_formula.Goals as goal

pub add_normal_formula-returns-in-Number : goal.add_normal_formula-returns-in-Number
add_normal_formula-returns-in-Number t c =
    let fits : FitsSigned w32 c.args.factor = search rules in
    let number_fits : FitsSigned w32 c.in-Number.number = search rules in
    let sum_fits : FitsSigned w32 c.args.sum.now.number = search rules in
    let product_fits : FitsSigned w32 c.wrapping_mul.result = search rules in
    number_more c.args.factor c.in-Number.number c.args.sum.now.number _ c.args.sum.now.terms.items (formula_view c.args.formula.now)
    (ap formula_view c.in-Number.is)
    (taken_sum c.args.sum.now.number c.wrapping_mul.result c.wrapping_add-sum.result sum_fits product_fits c.wrapping_add-sum.ensures
    ∙ ap (λ (z : ℤ). wrapped (c.args.sum.now.number +ℤ z))
    (sym (to_z-of_z w32 c.wrapping_mul.result product_fits)
    ∙ taken_product c.args.factor c.in-Number.number c.wrapping_mul.result fits number_fits c.wrapping_mul.ensures))

pub add_normal_formula-returns-in-Unary-Neg-default : goal.add_normal_formula-returns-in-Unary-Neg-default
add_normal_formula-returns-in-Unary-Neg-default t c =
    let sum = sum_formula c.args.sum.now in
    let made = sum_formula c.add_normal_formula.new.sum in
    let fits : FitsSigned w32 c.args.factor = search rules in
    let is : formula_view c.args.formula.now ≡ unary Neg (formula_view c.deref.result.now) = search rules in
    on_ok_then c.add_normal_formula.result c.add_normal_formula.ensures (λ next.
    subst (λ (y : Formula). Rewrites (binary Add (product c.args.factor y) sum) made) (sym is)
    (negation_more c.args.factor (to_z w32 (of_z w32 c.wrapping_neg.result)) (formula_view c.deref.result.now) sum made
    (taken_negation c.args.factor c.wrapping_neg.result fits c.wrapping_neg.ensures) next))

pub add_normal_formula-returns-in_ok-add_normal_formula-in-Binary-Add-default-default : goal.add_normal_formula-returns-in_ok-add_normal_formula-in-Binary-Add-default-default
add_normal_formula-returns-in_ok-add_normal_formula-in-Binary-Add-default-default t c =
    let sum = sum_formula c.args.sum.now in
    let made = sum_formula c.add_normal_formula-in-Binary-Add-default-default-2.new.sum in
    let fits : FitsSigned w32 c.args.factor = search rules in
    let is : formula_view c.args.formula.now ≡ binary Add (formula_view c.deref-in-Binary-Add-default-default.result.now) (formula_view c.deref-in-Binary-Add-default-default-2.result.now) = search rules in
    on_ok_then c.add_normal_formula-in-Binary-Add-default-default-2.result c.add_normal_formula-in-Binary-Add-default-default-2.ensures (λ next.
    subst (λ (y : Formula). Rewrites (binary Add (product c.args.factor y) sum) made) (sym is)
    (sum_more c.args.factor (formula_view c.deref-in-Binary-Add-default-default.result.now) (formula_view c.deref-in-Binary-Add-default-default-2.result.now) sum _ made
    (taken_factor c.args.factor (formula_view c.deref-in-Binary-Add-default-default.result.now) sum _ fits c.in_ok-add_normal_formula-in-Binary-Add-default-default.ensures)
    (taken_factor c.args.factor (formula_view c.deref-in-Binary-Add-default-default-2.result.now) _ made fits next)))

pub add_normal_formula-returns-in_ok-add_normal_formula-in-Binary-Sub-default-default : goal.add_normal_formula-returns-in_ok-add_normal_formula-in-Binary-Sub-default-default
add_normal_formula-returns-in_ok-add_normal_formula-in-Binary-Sub-default-default t c =
    let sum = sum_formula c.args.sum.now in
    let made = sum_formula c.add_normal_formula-in-Binary-Sub-default-default-2.new.sum in
    let fits : FitsSigned w32 c.args.factor = search rules in
    let is : formula_view c.args.formula.now ≡ binary Sub (formula_view c.deref-in-Binary-Sub-default-default.result.now) (formula_view c.deref-in-Binary-Sub-default-default-2.result.now) = search rules in
    on_ok_then c.add_normal_formula-in-Binary-Sub-default-default-2.result c.add_normal_formula-in-Binary-Sub-default-default-2.ensures (λ next.
    subst (λ (y : Formula). Rewrites (binary Add (product c.args.factor y) sum) made) (sym is)
    (difference_more c.args.factor (to_z w32 (of_z w32 c.wrapping_neg-in-Binary-Sub-default-default.result)) (formula_view c.deref-in-Binary-Sub-default-default.result.now) (formula_view c.deref-in-Binary-Sub-default-default-2.result.now) sum _ made
    (taken_negation c.args.factor c.wrapping_neg-in-Binary-Sub-default-default.result fits c.wrapping_neg-in-Binary-Sub-default-default.ensures)
    (taken_factor c.args.factor (formula_view c.deref-in-Binary-Sub-default-default.result.now) sum _ fits c.in_ok-add_normal_formula-in-Binary-Sub-default-default.ensures) next))

pub add_normal_formula-returns-in-Some-default : goal.add_normal_formula-returns-in-Some-default
add_normal_formula-returns-in-Some-default t c =
    let sum = sum_formula c.args.sum.now in
    let made = sum_formula c.add_normal_formula-in-Some-default.new.sum in
    let fits : FitsSigned w32 c.args.factor = search rules in
    let number_fits : FitsSigned w32 c.in-Some-default.number = search rules in
    let is : formula_view c.args.formula.now ≡ binary Mul (formula_view c.deref-in-Binary-Mul-default-default.result.now) (formula_view c.deref-in-Some-default.result.now) = search rules in
    on_ok_then c.add_normal_formula-in-Some-default.result c.add_normal_formula-in-Some-default.ensures (λ next.
    subst (λ (y : Formula). Rewrites (binary Add (product c.args.factor y) sum) made) (sym is)
    (left_product_more c.args.factor (to_z w32 (of_z w32 c.wrapping_mul-in-Some-default.result)) c.in-Some-default.number (formula_view c.deref-in-Some-default.result.now) (formula_view c.deref-in-Binary-Mul-default-default.result.now) sum made
    c.in-Some-default.ensures (taken_product c.args.factor c.in-Some-default.number c.wrapping_mul-in-Some-default.result fits number_fits c.wrapping_mul-in-Some-default.ensures) next))

pub add_normal_formula-returns-in-None-Some : goal.add_normal_formula-returns-in-None-Some
add_normal_formula-returns-in-None-Some t c =
    let sum = sum_formula c.args.sum.now in
    let made = sum_formula c.add_normal_formula-in-None-Some.new.sum in
    let fits : FitsSigned w32 c.args.factor = search rules in
    let number_fits : FitsSigned w32 c.in-None-Some.number = search rules in
    let is : formula_view c.args.formula.now ≡ binary Mul (formula_view c.deref-in-None-Some.result.now) (formula_view c.deref-in-Binary-Mul-default-default-2.result.now) = search rules in
    on_ok_then c.add_normal_formula-in-None-Some.result c.add_normal_formula-in-None-Some.ensures (λ next.
    subst (λ (y : Formula). Rewrites (binary Add (product c.args.factor y) sum) made) (sym is)
    (right_product_more c.args.factor (to_z w32 (of_z w32 c.wrapping_mul-in-None-Some.result)) c.in-None-Some.number (formula_view c.deref-in-None-Some.result.now) (formula_view c.deref-in-Binary-Mul-default-default-2.result.now) sum made
    c.in-None-Some.ensures' (taken_product c.args.factor c.in-None-Some.number c.wrapping_mul-in-None-Some.result fits number_fits c.wrapping_mul-in-None-Some.ensures) next))

pub add_normal_formula-returns-in-Literal-Shl-default-default : goal.add_normal_formula-returns-in-Literal-Shl-default-default
add_normal_formula-returns-in-Literal-Shl-default-default t c =
    let sum = sum_formula c.args.sum.now in
    let made = sum_formula c.add_normal_formula-in-Literal-Shl-default-default.new.sum in
    let fits : FitsSigned w32 c.args.factor = search rules in
    let is : formula_view c.args.formula.now ≡ literal Shl (formula_view c.deref-in-Literal-Shl-default-default.result.now) c.in-Literal-Shl-default-default.count = search rules in
    on_ok_then c.add_normal_formula-in-Literal-Shl-default-default.result c.add_normal_formula-in-Literal-Shl-default-default.ensures (λ next.
    subst (λ (y : Formula). Rewrites (binary Add (product c.args.factor y) sum) made) (sym is)
    (shift_more c.args.factor (to_z w32 (of_z w32 c.wrapping_shl.result)) c.in-Literal-Shl-default-default.count (formula_view c.deref-in-Literal-Shl-default-default.result.now) sum made
    (taken_shift c.args.factor c.wrapping_shl.result c.in-Literal-Shl-default-default.count fits c.wrapping_shl.ensures) next))

pub add_normal_parts-returns : goal.add_normal_parts-returns
add_normal_parts-returns t c =
    let sum = sum_formula c.args.sum.now in
    let made = sum_formula c.add_normal_term.new.self in
    let fits : FitsSigned w32 c.args.factor = search rules in
    on_ok_then c.add_normal_term.result c.add_normal_term.ensures (λ next.
    part_more c.args.factor (formula_view c.args.formula.now) (formula_view c.in_ok-term.term) sum made c.in_ok-term.ensures
    (taken_factor c.args.factor (formula_view c.in_ok-term.term) sum made fits next))

pub normalize_formula_parts-returns-in-Read : goal.normalize_formula_parts-returns-in-Read
normalize_formula_parts-returns-in-Read t c =
    same (formula_view c.args.formula.now) (read c.in-Read.stage c.in-Read.row c.in-Read.column) (sym (ap formula_view c.in-Read.is))

pub normalize_formula_parts-returns-in_ok-of-in-Unary : goal.normalize_formula_parts-returns-in_ok-of-in-Unary
normalize_formula_parts-returns-in_ok-of-in-Unary t c =
    from_same (formula_view c.args.formula.now) (unary c.in-Unary.op (formula_view c.deref.result.now)) _
    (ap formula_view c.in-Unary.is ∙ (λ i. unary c.in-Unary.op (formula_view (sym c.deref.ensures i))))
    (unary_part c.in-Unary.op (formula_view c.deref.result.now) (formula_view c.in_ok-of-in-Unary.of.value) c.in_ok-of-in-Unary.ensures)

pub normalize_formula_parts-returns-in_ok-right-in-Binary : goal.normalize_formula_parts-returns-in_ok-right-in-Binary
normalize_formula_parts-returns-in_ok-right-in-Binary t c =
    let op = c.in-Binary.op in
    let first = formula_view c.deref-in-Binary.result.now in
    let second = formula_view c.deref-in-Binary-2.result.now in
    let left = formula_view c.in_ok-left-in-Binary.left.value in
    let right = formula_view c.in_ok-right-in-Binary.right.value in
    ok_then c.join_normal_operands.result c.join_normal_operands.ensures (λ made x.
    from_same (formula_view c.args.formula.now) (binary op first second) (formula_view made)
    (ap formula_view c.in-Binary.is
    ∙ (λ i. binary op (formula_view (sym c.deref-in-Binary.ensures i)) (formula_view (sym c.deref-in-Binary-2.ensures i))))
    (steps (binary op first second) (binary op left right) (formula_view made)
    (binary_parts op first left second right c.in_ok-left-in-Binary.ensures c.in_ok-right-in-Binary.ensures) x))

pub normalize_formula_parts-returns-in_ok-third-in-Ternary : goal.normalize_formula_parts-returns-in_ok-third-in-Ternary
normalize_formula_parts-returns-in_ok-third-in-Ternary t c =
    let op = c.in-Ternary.op in
    from_same (formula_view c.args.formula.now)
    (ternary op (formula_view c.deref-in-Ternary.result.now) (formula_view c.deref-in-Ternary-2.result.now) (formula_view c.deref-in-Ternary-3.result.now)) _
    (ap formula_view c.in-Ternary.is
    ∙ (λ i. ternary op (formula_view (sym c.deref-in-Ternary.ensures i)) (formula_view (sym c.deref-in-Ternary-2.ensures i))
    (formula_view (sym c.deref-in-Ternary-3.ensures i))))
    (ternary_parts op _ _ _ _ _ _ c.in_ok-first-in-Ternary.ensures c.in_ok-second-in-Ternary.ensures c.in_ok-third-in-Ternary.ensures)

pub normalize_formula_parts-returns-in_ok-of-in-Literal : goal.normalize_formula_parts-returns-in_ok-of-in-Literal
normalize_formula_parts-returns-in_ok-of-in-Literal t c =
    let op = c.in-Literal.op in
    let n = c.in-Literal.number in
    let first = formula_view c.deref-in-Literal.result.now in
    let of = formula_view c.in_ok-of-in-Literal.of in
    ok_then c.apply_normal_literal.result c.apply_normal_literal.ensures (λ made x.
    from_same (formula_view c.args.formula.now) (literal op first n) (formula_view made)
    (ap formula_view c.in-Literal.is ∙ (λ i. literal op (formula_view (sym c.deref-in-Literal.ensures i)) n))
    (steps (literal op first n) (literal op of n) (formula_view made) (literal_part op n first of c.in_ok-of-in-Literal.ensures) x))

pub normalize_formula_parts-returns-in_ok-clone-in-Lookup : goal.normalize_formula_parts-returns-in_ok-clone-in-Lookup
normalize_formula_parts-returns-in_ok-clone-in-Lookup t c =
    let first = formula_view c.deref-in-Lookup.result.now in
    from_same (formula_view c.args.formula.now) (lookup c.in_ok-clone-in-Lookup.field-0 first) _
    (ap formula_view c.in-Lookup.is
    ∙ (λ i. lookup (sym c.in_ok-clone-in-Lookup.ensures.cases i) (formula_view (sym c.deref-in-Lookup.ensures i))))
    (lookup_part c.in_ok-clone-in-Lookup.field-0 first (formula_view c.in_ok-index-in-Lookup.index.value) c.in_ok-index-in-Lookup.ensures)

pub normalize_formula_parts-returns-in_ok-otherwise-in-Select : goal.normalize_formula_parts-returns-in_ok-otherwise-in-Select
normalize_formula_parts-returns-in_ok-otherwise-in-Select t c =
    let relation = c.in-Select.relation in
    let given =
    select (formula_view c.deref-in-Select.result.now) relation (formula_view c.deref-in-Select-2.result.now)
    (formula_view c.deref-in-Select-3.result.now) (formula_view c.deref-in-Select-4.result.now) in
    let parts =
    select (formula_view c.in_ok-left-in-Select.left.value) relation (formula_view c.in_ok-right-in-Select.right.value)
    (formula_view c.in_ok-then-in-Select.then.value) (formula_view c.in_ok-otherwise-in-Select.otherwise.value) in
    from_same (formula_view c.args.formula.now) given (formula_view c.choose_normal_formula.result)
    (ap formula_view c.in-Select.is
    ∙ (λ i. select (formula_view (sym c.deref-in-Select.ensures i)) relation (formula_view (sym c.deref-in-Select-2.ensures i))
    (formula_view (sym c.deref-in-Select-3.ensures i)) (formula_view (sym c.deref-in-Select-4.ensures i))))
    (steps given parts (formula_view c.choose_normal_formula.result)
    (select_parts relation _ _ _ _ _ _ _ _ c.in_ok-left-in-Select.ensures c.in_ok-right-in-Select.ensures c.in_ok-then-in-Select.ensures
    c.in_ok-otherwise-in-Select.ensures)
    c.choose_normal_formula.ensures)

pub normalize_formula_parts-returns-in_ok-copy_kernel-in-Stencil : goal.normalize_formula_parts-returns-in_ok-copy_kernel-in-Stencil
normalize_formula_parts-returns-in_ok-copy_kernel-in-Stencil t c =
    same (formula_view c.args.formula.now) (stencil c.in-Stencil.stage c.in-Stencil.divisor c.in_ok-copy_kernel-in-Stencil.field-0)
    (ap (stencil c.in-Stencil.stage c.in-Stencil.divisor) c.in_ok-copy_kernel-in-Stencil.ensures ∙ sym (ap formula_view c.in-Stencil.is))

pub normalize_sum-returns : goal.normalize_sum-returns
normalize_sum-returns t c =
    let f = formula_view c.args.formula.now in
    let made = sum_formula c.add_normal_formula.new.sum in
    let sum : Rewrites (binary Add (product (pos 1) f) (number (pos 0))) made =
    subst (λ (ts : List NormalTerm). Rewrites (binary Add (product (pos 1) f) (terms_over (number (pos 0)) ts)) made) c.new.ensures.items
    c.in_ok-add_normal_formula.ensures in
    ok_then c.build_normal_sum.result c.build_normal_sum.ensures (λ result x. sum_of_formula f made (formula_view result) sum x)
