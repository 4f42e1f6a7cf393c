use Rattle.std.proofs.Common.{◌+◌, ◌++◌, [], ◌∷◌, ap, cond, drop, inl, List, ℕ, refl, sym, ◌∙◌, subst}
use Rattle.std.proofs.lemmas.Result.{err_from_is_err_and}
use Rattle.tables.specs.declared.table.Table.{Table}
use Rattle.command_inputs.specs.inside.Steps.{AreTablesBefore, BeginsWithTable, IsLineRefusal}
use Rattle.command_inputs.proofs.TableLines.{begun_table, next_table, rest_is, tables_more, tables_refused}
use Rattle.command_inputs.proofs.table_lines.parse_given_count_of_input_table_lines.Goals as goal

pub returns-in_err-table-clause-fault : goal.returns-in_err-table-clause-fault
returns-in_err-table-clause-fault c =
    let p = err_from_is_err_and c.from_residual.result c.from_residual.ensures.1 in
    let before = c.loop-number.invariant in
    rw (p.1, p.2) (tables_refused c.args.section.now c.args.count c.loop-number.number c.loop-number.start c.loop-number.tables.items
    c.in_err-table.field-0.0 before c.loop-number-test.true
    (subst (λ (rest : List ℕ). IsLineRefusal rest (c.loop-number.number + 1) c.in_err-table.field-0.0)
    (rest_is c.args.section.now c.loop-number.start) c.in_err-table.ensures.fault))

pub returns-in_err-map_err-clause-fault : goal.returns-in_err-map_err-clause-fault
returns-in_err-map_err-clause-fault c =
    let p = err_from_is_err_and c.from_residual-in_err-map_err.result c.from_residual-in_err-map_err.ensures.1 in
    let section = c.args.section.now in
    let start = c.loop-number.start in
    let t = c.in_ok-table.table in
    let begins = subst (λ (rest : List ℕ). BeginsWithTable rest t c.in_ok-table.length) (rest_is section start) c.in_ok-table.ensures.ok in
    rw (p.1, p.2) (inl (
      refl,
      next_table section c.args.count c.loop-number.number start c.loop-number.tables.items c.loop-number.invariant
          c.loop-number-test.true (begun_table (drop start section) t c.in_ok-table.length begins),
    ))

pub loop-number-preserved : goal.loop-number-preserved
loop-number-preserved c =
    let section = c.args.section.now in
    let tables = c.loop-number.tables.items in
    let t = c.in_ok-table.table in
    let start = c.loop-number.start + c.in_ok-table.length in
    let longer = c.push.ensures.items ∙ ap (λ r. cond r (tables ++ (t ∷ [])) tables) (sym c.in_ok-map_err.ensures.variant) in
    subst (λ (ts : List Table). AreTablesBefore section (c.loop-number.number + 1) ts start) (sym longer)
    (tables_more section c.loop-number.number c.loop-number.start c.in_ok-table.length tables t c.loop-number.invariant
    (subst (λ (rest : List ℕ). BeginsWithTable rest t c.in_ok-table.length) (rest_is section c.loop-number.start) c.in_ok-table.ensures.ok))
