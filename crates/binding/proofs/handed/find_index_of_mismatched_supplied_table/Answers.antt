use Rattle.std.proofs.Common.{◌+◌, ap, subst, sym, ◌∙◌, refl, is_some}
use Rattle.std.specs.List.{flat_map}
use Rattle.std.specs.Prelude.{IsTrue, IfSome, IfNone}
use Rattle.std.proofs.lemmas.Bool.{false≢true, ltb-false}
use Rattle.pipe_tree.specs.Tree.{declarations}
use Rattle.binding.specs.Binding.{item_tables, TablesFit}
use Rattle.binding.specs.BindFaults.{IsFirstMisfit}
use Rattle.binding.proofs.MisfitLaws.{tables_from, Passed, table_first, none_first, none_behind, passes, stops_unfit, stops_short, ends}
use Rattle.binding.proofs.handed.find_index_of_mismatched_supplied_table.Goals.{in-Table+in-Some, in_default}
use Rattle.binding.proofs.handed.find_index_of_mismatched_supplied_table.Goals as goal

pub returns-in_default-get-clause-some : goal.returns-in_default-get-clause-some
returns-in_default-get-clause-some c =
    let items = c.args.items.now in
    let n = c.loop-item.item-index in
    let first = table_first items n c.item-item.result c.in-Table.declared c.loop-item-test.true c.item-item.is c.in-Table.is in
    stops_unfit c.args.params.now (flat_map item_tables (declarations items)) c.args.given.now (tables_from items n) (tables_from items (n + 1))
    c.loop-item.number c.in-Table.declared c.in-Some.table.now first c.in-Some.ensures.lookup.3.0 c.in-Some.ensures.lookup.1
    (λ fits. false≢true (subst IsTrue c.if-is_supplied_table_as_declared.false (c.is_supplied_table_as_declared.ensures.1 fits))) c.loop-item.invariant

pub returns-in_default-get-2-clause-some : goal.returns-in_default-get-2-clause-some
returns-in_default-get-2-clause-some c =
    let items = c.args.items.now in
    let n = c.loop-item.item-index in
    let first = table_first items n c.item-item.result c.in-Table.declared c.loop-item-test.true c.item-item.is c.in-Table.is in
    stops_short c.args.params.now (flat_map item_tables (declarations items)) c.args.given.now (tables_from items n) (tables_from items (n + 1))
    c.loop-item.number c.in-Table.declared first (ltb-false _ _ (sym c.get.ensures.lookup.0 ∙ ap is_some c.in_default-get.is)) c.loop-item.invariant

pub loop-item-preserved : goal.loop-item-preserved
loop-item-preserved c =
    let items = c.args.items.now in
    let given = c.args.given.now in
    let all = flat_map item_tables (declarations items) in
    let n = c.loop-item.item-index in
    elim c.match-item.branch [
      | in-Table+in-Some w ↦
          let first = table_first items n c.item-item.result w.in-Table.declared c.loop-item-test.true c.item-item.is w.in-Table.is in
          subst (Passed c.args.params.now all given (tables_from items (n + 1))) (sym w.number-is)
          (passes c.args.params.now all given (tables_from items n) (tables_from items (n + 1)) c.loop-item.number w.in-Table.declared
          w.in-Some.table.now first w.in-Some.ensures.lookup.3.0 w.in-Some.ensures.lookup.1
          (w.is_supplied_table_as_declared.ensures.0 w.if-is_supplied_table_as_declared.true) c.loop-item.invariant)
      | in_default w ↦
          let none = none_first items n c.item-item.result c.loop-item-test.true c.item-item.is w.in_default.not-Table in
          subst (Passed c.args.params.now all given (tables_from items (n + 1))) (sym w.number-is)
          (subst (λ ts. Passed c.args.params.now all given ts c.loop-item.number) none c.loop-item.invariant)
    ]

pub returns-clause-some : goal.returns-clause-some
returns-clause-some c =
    let items = c.args.items.now in
    let behind = none_behind items c.loop-item.item-index c.loop-item-test.false in
    subst (λ o. IfSome o (IsFirstMisfit c.args.params.now (flat_map item_tables (declarations items)) c.args.given.now))
    (sym c.then_some.ensures)
    (ends c.args.params.now (flat_map item_tables (declarations items)) c.args.given.now (tables_from items c.loop-item.item-index)
    c.loop-item.number behind c.loop-item.invariant _ refl).0

pub returns-clause-none : goal.returns-clause-none
returns-clause-none c =
    let items = c.args.items.now in
    let behind = none_behind items c.loop-item.item-index c.loop-item-test.false in
    subst (λ o. IfNone o (TablesFit c.args.params.now (flat_map item_tables (declarations items)) c.args.given.now))
    (sym c.then_some.ensures)
    (ends c.args.params.now (flat_map item_tables (declarations items)) c.args.given.now (tables_from items c.loop-item.item-index)
    c.loop-item.number behind c.loop-item.invariant _ refl).1
