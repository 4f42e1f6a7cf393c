use Rattle.std.proofs.Common.{rules, ◌≡◌, ℤ, ap, sym, ◌∙◌}
use Rattle.domains.specs.Index.{index_at}
use Rattle.job.specs.Formula.{read, unary, binary, ternary, literal, lookup, select}
use Rattle.job.specs.Views.{formula_view}
use Rattle.joined_formulas.specs.inside.Parts.{IsPartAt}
use Rattle.joined_formulas.proofs.PartsAt.{part_from, read_part, unary_part_at, binary_part_at, ternary_part_at, literal_part_at, lookup_part_at, select_part_at}
use Rattle.joined_formulas.proofs.known_parts.+is_joined_part.Goals as goal

pub returns-else-not-is_joined_part_index : goal.returns-else-not-is_joined_part_index
returns-else-not-is_joined_part_index t c = λ yes.
    let n = c.in-Read-Read in
    let same : n.other ≡ n.stage = search rules in
    let rows : (v : ℤ) → index_at n.other_row v ≡ index_at n.own_row (index_at c.args.row.now v) = search rules in
    let columns : (v : ℤ) → index_at n.other_column v ≡ index_at n.own_column (index_at c.args.column.now v) =
    c.is_joined_part_index-in-Read-Read.ensures yes in
    part_from c.args.row.now c.args.column.now (formula_view c.args.part.now) (formula_view c.args.formula.now) _ _ (ap formula_view n.is-0)
    (ap formula_view n.is-1 ∙ (λ i. read (same i) n.other_row n.other_column))
    (read_part c.args.row.now c.args.column.now n.stage n.own_row n.own_column n.other_row n.other_column rows columns)

pub returns-else-ne : goal.returns-else-ne
returns-else-ne t c = λ yes.
    let n = c.in-Unary-Unary in
    let a = formula_view c.deref.result.now in
    let b = formula_view c.deref-in-Unary-Unary.result.now in
    let same : n.other ≡ n.op = search rules in
    part_from c.args.row.now c.args.column.now (formula_view c.args.part.now) (formula_view c.args.formula.now) (unary n.op a) (unary n.op b)
    (ap formula_view n.is-0 ∙ (λ i. unary n.op (formula_view (sym c.deref.ensures i))))
    (ap formula_view n.is-1 ∙ (λ i. unary (same i) (formula_view (sym c.deref-in-Unary-Unary.ensures i))))
    (unary_part_at c.args.row.now c.args.column.now n.op a b (c.is_joined_part.ensures yes))

pub returns-else-not-is_joined_part : goal.returns-else-not-is_joined_part
returns-else-not-is_joined_part t c = λ yes.
    let n = c.in-Binary-Binary in
    let a = formula_view c.deref-else-ne-2.result.now in
    let b = formula_view c.deref-else-ne-2-2.result.now in
    let p = formula_view c.deref-in-Binary-Binary.result.now in
    let q = formula_view c.deref-in-Binary-Binary-2.result.now in
    let same : n.other ≡ n.op = search rules in
    let left : IsPartAt c.args.row.now c.args.column.now a b = search rules in
    part_from c.args.row.now c.args.column.now (formula_view c.args.part.now) (formula_view c.args.formula.now) (binary n.op a p) (binary n.op b q)
    (ap formula_view n.is-0 ∙ (λ i. binary n.op (formula_view (sym c.deref-else-ne-2.ensures i)) (formula_view (sym c.deref-in-Binary-Binary.ensures i))))
    (ap formula_view n.is-1
    ∙ (λ i. binary (same i) (formula_view (sym c.deref-else-ne-2-2.ensures i)) (formula_view (sym c.deref-in-Binary-Binary-2.ensures i))))
    (binary_part_at c.args.row.now c.args.column.now n.op a b p q left (c.is_joined_part-in-Binary-Binary.ensures yes))

pub returns-else-not-is_joined_part-3 : goal.returns-else-not-is_joined_part-3
returns-else-not-is_joined_part-3 t c = λ yes.
    let n = c.in-Ternary-Ternary in
    let a = formula_view c.deref-else-ne-3.result.now in
    let b = formula_view c.deref-else-ne-3-2.result.now in
    let p = formula_view c.deref-in-Ternary-Ternary.result.now in
    let q = formula_view c.deref-in-Ternary-Ternary-2.result.now in
    let u = formula_view c.deref-in-Ternary-Ternary-3.result.now in
    let v = formula_view c.deref-in-Ternary-Ternary-4.result.now in
    let same : n.other ≡ n.op = search rules in
    let first : IsPartAt c.args.row.now c.args.column.now a b = search rules in
    let second : IsPartAt c.args.row.now c.args.column.now p q = search rules in
    part_from c.args.row.now c.args.column.now (formula_view c.args.part.now) (formula_view c.args.formula.now) (ternary n.op a p u) (ternary n.op b q v)
    (ap formula_view n.is-0
    ∙ (λ i. ternary n.op (formula_view (sym c.deref-else-ne-3.ensures i)) (formula_view (sym c.deref-in-Ternary-Ternary.ensures i))
    (formula_view (sym c.deref-in-Ternary-Ternary-3.ensures i))))
    (ap formula_view n.is-1
    ∙ (λ i. ternary (same i) (formula_view (sym c.deref-else-ne-3-2.ensures i)) (formula_view (sym c.deref-in-Ternary-Ternary-2.ensures i))
    (formula_view (sym c.deref-in-Ternary-Ternary-4.ensures i))))
    (ternary_part_at c.args.row.now c.args.column.now n.op a b p q u v first second (c.is_joined_part-in-Ternary-Ternary-2.ensures yes))

pub returns-else-number-other_number : goal.returns-else-number-other_number
returns-else-number-other_number t c = λ yes.
    let n = c.in-Literal-Literal in
    let a = formula_view c.deref-in-Literal-Literal.result.now in
    let b = formula_view c.deref-in-Literal-Literal-2.result.now in
    let same : n.other ≡ n.op = search rules in
    let number : n.other_number ≡ n.number = search rules in
    part_from c.args.row.now c.args.column.now (formula_view c.args.part.now) (formula_view c.args.formula.now) (literal n.op a n.number) (literal n.op b n.number)
    (ap formula_view n.is-0 ∙ (λ i. literal n.op (formula_view (sym c.deref-in-Literal-Literal.ensures i)) n.number))
    (ap formula_view n.is-1 ∙ (λ i. literal (same i) (formula_view (sym c.deref-in-Literal-Literal-2.ensures i)) (number i)))
    (literal_part_at c.args.row.now c.args.column.now n.op n.number a b (c.is_joined_part-in-Literal-Literal.ensures yes))

pub returns-else-not-is_same_joined_table : goal.returns-else-not-is_same_joined_table
returns-else-not-is_same_joined_table t c = λ yes.
    let n = c.in-Lookup-Lookup in
    let a = formula_view c.deref-in-Lookup-Lookup.result.now in
    let b = formula_view c.deref-in-Lookup-Lookup-2.result.now in
    let same : n.other ≡ n.entries = search rules in
    part_from c.args.row.now c.args.column.now (formula_view c.args.part.now) (formula_view c.args.formula.now) (lookup n.entries a) (lookup n.entries b)
    (ap formula_view n.is-0 ∙ (λ i. lookup n.entries (formula_view (sym c.deref-in-Lookup-Lookup.ensures i))))
    (ap formula_view n.is-1 ∙ (λ i. lookup (same i) (formula_view (sym c.deref-in-Lookup-Lookup-2.ensures i))))
    (lookup_part_at c.args.row.now c.args.column.now n.entries a b (c.is_joined_part-in-Lookup-Lookup.ensures yes))

pub returns-else-not-is_joined_part-6 : goal.returns-else-not-is_joined_part-6
returns-else-not-is_joined_part-6 t c = λ yes.
    let n = c.in-Select-Select in
    let a = formula_view c.deref-else-ne-5.result.now in
    let b = formula_view c.deref-else-ne-5-2.result.now in
    let p = formula_view c.deref-in-Select-Select.result.now in
    let q = formula_view c.deref-in-Select-Select-2.result.now in
    let u = formula_view c.deref-in-Select-Select-3.result.now in
    let v = formula_view c.deref-in-Select-Select-4.result.now in
    let x = formula_view c.deref-in-Select-Select-5.result.now in
    let y = formula_view c.deref-in-Select-Select-6.result.now in
    let same : n.other ≡ n.relation = search rules in
    let first : IsPartAt c.args.row.now c.args.column.now a b = search rules in
    let second : IsPartAt c.args.row.now c.args.column.now p q = search rules in
    let third : IsPartAt c.args.row.now c.args.column.now u v = search rules in
    part_from c.args.row.now c.args.column.now (formula_view c.args.part.now) (formula_view c.args.formula.now)
    (select a n.relation p u x) (select b n.relation q v y)
    (ap formula_view n.is-0
    ∙ (λ i. select (formula_view (sym c.deref-else-ne-5.ensures i)) n.relation (formula_view (sym c.deref-in-Select-Select.ensures i))
    (formula_view (sym c.deref-in-Select-Select-3.ensures i)) (formula_view (sym c.deref-in-Select-Select-5.ensures i))))
    (ap formula_view n.is-1
    ∙ (λ i. select (formula_view (sym c.deref-else-ne-5-2.ensures i)) (same i) (formula_view (sym c.deref-in-Select-Select-2.ensures i))
    (formula_view (sym c.deref-in-Select-Select-4.ensures i)) (formula_view (sym c.deref-in-Select-Select-6.ensures i))))
    (select_part_at c.args.row.now c.args.column.now n.relation a b p q u v x y first second third (c.is_joined_part-in-Select-Select-3.ensures yes))
