use Rattle.std.proofs.Common.{ap, sym, ◌∙◌}
use Rattle.domains.proofs.Places.{ok_then}
use Rattle.job.specs.Formula.{read, unary, binary, ternary, literal, lookup, select}
use Rattle.job.specs.Views.{formula_view}
use Rattle.joined_formulas.proofs.Parts.{from_same, unary_part, binary_parts, ternary_parts, literal_part, lookup_part, select_parts}
use Rattle.joined_formulas.proofs.joined.+join_formula.Goals as goal

pub join_formula_parts-returns-in-Read : goal.join_formula_parts-returns-in-Read
join_formula_parts-returns-in-Read t c =
    ok_then c.join_read.result c.join_read.ensures (λ made x.
    from_same c.args.known.now (formula_view c.args.formula.now) (read c.in-Read.stage c.in-Read.row c.in-Read.column) (formula_view made)
    (ap formula_view c.in-Read.is) x)

pub join_formula_parts-returns-in_ok-of-in-Unary : goal.join_formula_parts-returns-in_ok-of-in-Unary
join_formula_parts-returns-in_ok-of-in-Unary t c =
    from_same c.args.known.now (formula_view c.args.formula.now) (unary c.in-Unary.op (formula_view c.deref.result.now)) _
    (ap formula_view c.in-Unary.is ∙ (λ i. unary c.in-Unary.op (formula_view (sym c.deref.ensures i))))
    (unary_part c.args.known.now c.in-Unary.op (formula_view c.deref.result.now) (formula_view c.in_ok-of-in-Unary.of.value) c.in_ok-of-in-Unary.ensures)

pub join_formula_parts-returns-in_ok-right-in-Binary : goal.join_formula_parts-returns-in_ok-right-in-Binary
join_formula_parts-returns-in_ok-right-in-Binary t c =
    let op = c.in-Binary.op in
    from_same c.args.known.now (formula_view c.args.formula.now) (binary op (formula_view c.deref-in-Binary.result.now) (formula_view c.deref-in-Binary-2.result.now)) _
    (ap formula_view c.in-Binary.is
    ∙ (λ i. binary op (formula_view (sym c.deref-in-Binary.ensures i)) (formula_view (sym c.deref-in-Binary-2.ensures i))))
    (binary_parts c.args.known.now op _ _ _ _ c.in_ok-left-in-Binary.ensures c.in_ok-right-in-Binary.ensures)

pub join_formula_parts-returns-in_ok-third-in-Ternary : goal.join_formula_parts-returns-in_ok-third-in-Ternary
join_formula_parts-returns-in_ok-third-in-Ternary t c =
    let op = c.in-Ternary.op in
    from_same c.args.known.now (formula_view c.args.formula.now)
    (ternary op (formula_view c.deref-in-Ternary.result.now) (formula_view c.deref-in-Ternary-2.result.now) (formula_view c.deref-in-Ternary-3.result.now)) _
    (ap formula_view c.in-Ternary.is
    ∙ (λ i. ternary op (formula_view (sym c.deref-in-Ternary.ensures i)) (formula_view (sym c.deref-in-Ternary-2.ensures i))
    (formula_view (sym c.deref-in-Ternary-3.ensures i))))
    (ternary_parts c.args.known.now op _ _ _ _ _ _ c.in_ok-first-in-Ternary.ensures c.in_ok-second-in-Ternary.ensures c.in_ok-third-in-Ternary.ensures)

pub join_formula_parts-returns-in_ok-of-in-Literal : goal.join_formula_parts-returns-in_ok-of-in-Literal
join_formula_parts-returns-in_ok-of-in-Literal t c =
    let op = c.in-Literal.op in
    let n = c.in-Literal.number in
    let first = formula_view c.deref-in-Literal.result.now in
    from_same c.args.known.now (formula_view c.args.formula.now) (literal op first n) _
    (ap formula_view c.in-Literal.is ∙ (λ i. literal op (formula_view (sym c.deref-in-Literal.ensures i)) n))
    (literal_part c.args.known.now op n first (formula_view c.in_ok-of-in-Literal.of.value) c.in_ok-of-in-Literal.ensures)

pub join_formula_parts-returns-in_ok-clone-in-Lookup : goal.join_formula_parts-returns-in_ok-clone-in-Lookup
join_formula_parts-returns-in_ok-clone-in-Lookup t c =
    let first = formula_view c.deref-in-Lookup.result.now in
    from_same c.args.known.now (formula_view c.args.formula.now) (lookup c.in_ok-clone-in-Lookup.field-0 first) _
    (ap formula_view c.in-Lookup.is
    ∙ (λ i. lookup (sym c.in_ok-clone-in-Lookup.ensures.cases i) (formula_view (sym c.deref-in-Lookup.ensures i))))
    (lookup_part c.args.known.now c.in_ok-clone-in-Lookup.field-0 first (formula_view c.in_ok-index-in-Lookup.index.value) c.in_ok-index-in-Lookup.ensures)

pub join_formula_parts-returns-in_ok-otherwise-in-Select : goal.join_formula_parts-returns-in_ok-otherwise-in-Select
join_formula_parts-returns-in_ok-otherwise-in-Select t c =
    let relation = c.in-Select.relation in
    from_same c.args.known.now (formula_view c.args.formula.now)
    (select (formula_view c.deref-in-Select.result.now) relation (formula_view c.deref-in-Select-2.result.now)
    (formula_view c.deref-in-Select-3.result.now) (formula_view c.deref-in-Select-4.result.now)) _
    (ap formula_view c.in-Select.is
    ∙ (λ i. select (formula_view (sym c.deref-in-Select.ensures i)) relation (formula_view (sym c.deref-in-Select-2.ensures i))
    (formula_view (sym c.deref-in-Select-3.ensures i)) (formula_view (sym c.deref-in-Select-4.ensures i))))
    (select_parts c.args.known.now relation _ _ _ _ _ _ _ _ c.in_ok-left-in-Select.ensures c.in_ok-right-in-Select.ensures c.in_ok-then-in-Select.ensures
    c.in_ok-otherwise-in-Select.ensures)

pub join_formula_parts-returns-in-Stencil : goal.join_formula_parts-returns-in-Stencil
join_formula_parts-returns-in-Stencil t c =
    ok_then c.join_stencil.result c.join_stencil.ensures (λ made x.
    from_same c.args.known.now (formula_view c.args.formula.now) _ (formula_view made) (ap formula_view c.in-Stencil.is) x)
