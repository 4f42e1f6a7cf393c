use Rattle.std.proofs.Common.{sym, subst, ◌∙◌}
use Rattle.job.specs.declared.formula.Formula.{Formula as KeptFormula}
use Rattle.job.specs.Views.{formula_view}
use Rattle.value_ranges.specs.declared.value_range.ValueRange.{ValueRange}
use Rattle.value_ranges.specs.inside.Found.{AreUnderKernel, IsFound}
use Rattle.value_ranges.proofs.Composing.{in_same, read_found, unary_found, literal_found, lookup_found, binary_values_same, binary_found, ternary_found, select_found, stencil_found}
use Rattle.value_ranges.proofs.formulas.+find_value_range_of_formula.Goals as goal

pub returns-in-Read : goal.returns-in-Read
returns-in-Read t c =
    subst (λ (f : KeptFormula). IsFound c.args.ranges.now (formula_view f) c.found_value_range-in-Read.result) (sym c.in-Read.is)
    (read_found c.args.ranges.now c.in-Read.stage c.in-Read.field-1 c.in-Read.field-2 c.found_value_range-in-Read.result
    (c.found_value_range-in-Read.ensures.range ∙ c.value_range_at.ensures) c.found_value_range-in-Read.ensures.narrow)

pub returns-in-Unary : goal.returns-in-Unary
returns-in-Unary t c =
    let one : IsFound c.args.ranges.now (formula_view c.in-Unary.a.value) c.find_value_range_of_formula-operand.result =
    subst (λ (f : KeptFormula). IsFound c.args.ranges.now (formula_view f) c.find_value_range_of_formula-operand.result) c.deref.ensures c.find_value_range_of_formula-operand.ensures in
    subst (λ (f : KeptFormula). IsFound c.args.ranges.now (formula_view f) c.found_value_range-in-Unary.result) (sym c.in-Unary.is)
    (unary_found c.args.ranges.now c.in-Unary.op (formula_view c.in-Unary.a.value) _ c.found_value_range-in-Unary.result one
    (λ v h. in_same _ _ _ c.found_value_range-in-Unary.ensures.range (c.find_value_range_of_unary.ensures v h)) c.found_value_range-in-Unary.ensures.operands c.found_value_range-in-Unary.ensures.narrow)

pub returns-in-Literal : goal.returns-in-Literal
returns-in-Literal t c =
    let one : IsFound c.args.ranges.now (formula_view c.in-Literal.a.value) c.find_value_range_of_formula-operand-in-Literal.result =
    subst (λ (f : KeptFormula). IsFound c.args.ranges.now (formula_view f) c.find_value_range_of_formula-operand-in-Literal.result) c.deref-in-Literal.ensures c.find_value_range_of_formula-operand-in-Literal.ensures in
    subst (λ (f : KeptFormula). IsFound c.args.ranges.now (formula_view f) c.found_value_range-in-Literal.result) (sym c.in-Literal.is)
    (literal_found c.args.ranges.now c.in-Literal.op (formula_view c.in-Literal.a.value) c.in-Literal.n _ c.found_value_range-in-Literal.result one
    (λ v is fits h. in_same _ _ _ c.found_value_range-in-Literal.ensures.range (c.find_value_range_of_literal.ensures v is fits h)) c.found_value_range-in-Literal.ensures.operands
    c.found_value_range-in-Literal.ensures.narrow)

pub returns-in-Lookup : goal.returns-in-Lookup
returns-in-Lookup t c =
    subst (λ (f : KeptFormula). IsFound c.args.ranges.now (formula_view f) c.found_value_range-in-Lookup.result) (sym c.in-Lookup.is)
    (lookup_found c.args.ranges.now c.in-Lookup.table (formula_view c.in-Lookup.field-1.value) c.found_value_range-in-Lookup.result
    (λ v. in_same _ _ _ c.found_value_range-in-Lookup.ensures.range (c.find_value_range_of_table.ensures v)) c.found_value_range-in-Lookup.ensures.operands)

pub returns-in-Binary : goal.returns-in-Binary
returns-in-Binary t c =
    let one : IsFound c.args.ranges.now (formula_view c.in-Binary.a.value) c.find_value_range_of_formula-left.result =
    subst (λ (f : KeptFormula). IsFound c.args.ranges.now (formula_view f) c.find_value_range_of_formula-left.result) c.deref-in-Binary.ensures c.find_value_range_of_formula-left.ensures in
    let two : IsFound c.args.ranges.now (formula_view c.in-Binary.b.value) c.find_value_range_of_formula-right.result =
    subst (λ (f : KeptFormula). IsFound c.args.ranges.now (formula_view f) c.find_value_range_of_formula-right.result) c.deref-in-Binary-2.ensures c.find_value_range_of_formula-right.ensures in
    let values =
    binary_values_same c.in-Binary.op c.find_value_range_of_formula-left.result.range c.find_value_range_of_formula-right.result.range
    c.find_value_range_of_binary_formula.result _ c.in-Binary.a.value _ c.in-Binary.b.value c.deref-in-Binary-3.ensures c.deref-in-Binary-4.ensures
    c.find_value_range_of_binary_formula.ensures in
    subst (λ (f : KeptFormula). IsFound c.args.ranges.now (formula_view f) c.found_value_range-in-Binary.result) (sym c.in-Binary.is)
    (binary_found c.args.ranges.now c.in-Binary.op (formula_view c.in-Binary.a.value) (formula_view c.in-Binary.b.value) _ _
    c.found_value_range-in-Binary.result one two
    (λ env r c' x y. in_same _ _ _ c.found_value_range-in-Binary.ensures.range (values env r c' x y))
    (λ e. c.are_both_narrow.ensures (c.found_value_range-in-Binary.ensures.operands e)) c.found_value_range-in-Binary.ensures.narrow)

pub returns-in-Ternary : goal.returns-in-Ternary
returns-in-Ternary t c =
    let one : IsFound c.args.ranges.now (formula_view c.in-Ternary.a.value) c.find_value_range_of_formula-first.result =
    subst (λ (f : KeptFormula). IsFound c.args.ranges.now (formula_view f) c.find_value_range_of_formula-first.result) c.deref-in-Ternary.ensures c.find_value_range_of_formula-first.ensures in
    let two : IsFound c.args.ranges.now (formula_view c.in-Ternary.b.value) c.find_value_range_of_formula-second.result =
    subst (λ (f : KeptFormula). IsFound c.args.ranges.now (formula_view f) c.find_value_range_of_formula-second.result) c.deref-in-Ternary-2.ensures c.find_value_range_of_formula-second.ensures in
    let three : IsFound c.args.ranges.now (formula_view c.in-Ternary.c.value) c.find_value_range_of_formula-third.result =
    subst (λ (f : KeptFormula). IsFound c.args.ranges.now (formula_view f) c.find_value_range_of_formula-third.result) c.deref-in-Ternary-3.ensures c.find_value_range_of_formula-third.ensures in
    subst (λ (f : KeptFormula). IsFound c.args.ranges.now (formula_view f) c.found_value_range-in-Ternary.result) (sym c.in-Ternary.is)
    (ternary_found c.args.ranges.now c.in-Ternary.op (formula_view c.in-Ternary.a.value) (formula_view c.in-Ternary.b.value)
    (formula_view c.in-Ternary.c.value) _ _ _ c.found_value_range-in-Ternary.result one two three
    (λ v l h x y z. in_same _ _ _ c.found_value_range-in-Ternary.ensures.range (c.find_value_range_of_ternary.ensures v l h x y z))
    (λ e. let both = c.are_both_narrow-in-Ternary-2.ensures (c.found_value_range-in-Ternary.ensures.operands e) in
    (c.are_both_narrow-in-Ternary.ensures both.0, both.1))
    c.found_value_range-in-Ternary.ensures.narrow)

pub returns-in-Select : goal.returns-in-Select
returns-in-Select t c =
    let one : IsFound c.args.ranges.now (formula_view c.in-Select.a.value) c.find_value_range_of_formula-left-in-Select.result =
    subst (λ (f : KeptFormula). IsFound c.args.ranges.now (formula_view f) c.find_value_range_of_formula-left-in-Select.result) c.deref-in-Select.ensures c.find_value_range_of_formula-left-in-Select.ensures in
    let two : IsFound c.args.ranges.now (formula_view c.in-Select.b.value) c.find_value_range_of_formula-right-in-Select.result =
    subst (λ (f : KeptFormula). IsFound c.args.ranges.now (formula_view f) c.find_value_range_of_formula-right-in-Select.result) c.deref-in-Select-2.ensures c.find_value_range_of_formula-right-in-Select.ensures in
    let three : IsFound c.args.ranges.now (formula_view c.in-Select.then.value) c.find_value_range_of_formula-first-in-Select.result =
    subst (λ (f : KeptFormula). IsFound c.args.ranges.now (formula_view f) c.find_value_range_of_formula-first-in-Select.result) c.deref-in-Select-3.ensures c.find_value_range_of_formula-first-in-Select.ensures in
    let four : IsFound c.args.ranges.now (formula_view c.in-Select.other.value) c.find_value_range_of_formula-second-in-Select.result =
    subst (λ (f : KeptFormula). IsFound c.args.ranges.now (formula_view f) c.find_value_range_of_formula-second-in-Select.result) c.deref-in-Select-4.ensures c.find_value_range_of_formula-second-in-Select.ensures in
    subst (λ (f : KeptFormula). IsFound c.args.ranges.now (formula_view f) c.found_value_range-in-Select.result) (sym c.in-Select.is)
    (select_found c.args.ranges.now (formula_view c.in-Select.a.value) c.in-Select.field-1 (formula_view c.in-Select.b.value)
    (formula_view c.in-Select.then.value) (formula_view c.in-Select.other.value) _ _ _ _ c.found_value_range-in-Select.result one two three four
    (λ v h. in_same _ _ _ c.found_value_range-in-Select.ensures.range (c.join_value_ranges.ensures.first v h))
    (λ v h. in_same _ _ _ c.found_value_range-in-Select.ensures.range (c.join_value_ranges.ensures.second v h))
    (λ e. let both = c.are_both_narrow-in-Select-3.ensures (c.found_value_range-in-Select.ensures.operands e) in
    (c.are_both_narrow-in-Select.ensures both.0, c.are_both_narrow-in-Select-2.ensures both.1)))

pub returns-in-Stencil : goal.returns-in-Stencil
returns-in-Stencil t c =
    let ensured = c.find_value_range_of_stencil.ensures in
    subst (λ (f : KeptFormula). IsFound c.args.ranges.now (formula_view f) c.find_value_range_of_stencil.result) (sym c.in-Stencil.is)
    (stencil_found c.args.ranges.now c.in-Stencil.stage c.in-Stencil.divisor c.in-Stencil.kernel c.find_value_range_of_stencil.result
    (λ f r c' is under. ensured.range f r c' is (subst (λ (x : ValueRange). AreUnderKernel x c.in-Stencil.kernel f r c') (sym c.value_range_at-in-Stencil.ensures) under))
    (λ e f r c' under. ensured.narrow e f r c' (subst (λ (x : ValueRange). AreUnderKernel x c.in-Stencil.kernel f r c') (sym c.value_range_at-in-Stencil.ensures) under)))
