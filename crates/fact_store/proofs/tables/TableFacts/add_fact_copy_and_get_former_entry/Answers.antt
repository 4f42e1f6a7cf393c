use Rattle.std.proofs.Common.{◌≡◌, true, false, ap, sym, ◌∙◌, insert}
use Rattle.std.specs.BTreeMap.{insert_entry, is_at}
use Rattle.std.specs.Map.{lookup}
use Rattle.std.specs.List.{list_any}
use Rattle.std.specs.Ordering.{eq_by_cmp}
use Rattle.identity.specs.Keys.{key_cmp}
use Rattle.tile_fact.specs.Order.{fact_cmp}
use Rattle.fact_store.proofs.SortedLaws.{if_err}
use Rattle.fact_store.proofs.TableLaws.{already, is_new, one_more, stand_after, is_table-insert, holds-tables}
use Rattle.fact_store.proofs.UndoLaws.{undo_put}
use Rattle.fact_store.specs.inside.SortedLists.{rises}
use Rattle.fact_store.specs.inside.Tables.{table_at, is_table, undo_one}
use Rattle.fact_store.proofs.tables.TableFacts.add_fact_copy_and_get_former_entry.Goals as goal

pub returns-in_default-clause-added : goal.returns-in_default-clause-added
returns-in_default-clause-added c =
    let es = c.args.self.now.tables.entries in
    let f = c.args.fact.now in
    let own : c.find_sorted_facts_of_key-facts.result.now ≡ table_at es f.key = c.find_sorted_facts_of_key-facts.ensures.table ∙ ap (table_at es) c.key.ensures in
    already es f c.args.self.now.stand (ap (list_any (eq_by_cmp fact_cmp f)) (sym own) ∙ c.in_default.ensures.found)

pub returns-in_default-clause-new : goal.returns-in_default-clause-new
returns-in_default-clause-new c =
    let es = c.args.self.now.tables.entries in
    let f = c.args.fact.now in
    let own : c.find_sorted_facts_of_key-facts.result.now ≡ table_at es f.key = c.find_sorted_facts_of_key-facts.ensures.table ∙ ap (table_at es) c.key.ensures in
    is_new es f true c.args.self.now.stand (ap (list_any (eq_by_cmp fact_cmp f)) (sym own) ∙ c.in_default.ensures.found)

pub returns-in_err-table-clause-only_new : goal.returns-in_err-table-clause-only_new
returns-in_err-table-clause-only_new c =
    let es = c.args.self.now.tables.entries in
    let f = c.args.fact.now in
    let own : c.find_sorted_facts_of_key-facts.result.now ≡ table_at es f.key = c.find_sorted_facts_of_key-facts.ensures.table ∙ ap (table_at es) c.key.ensures in
    if_err c.from_residual.result
    (holds-tables es f c.args.self.now.stand ∙ ap (list_any (eq_by_cmp fact_cmp f)) (sym own) ∙ c.in-Err.ensures.absent)

pub returns-in_err-former-clause-only_new : goal.returns-in_err-former-clause-only_new
returns-in_err-former-clause-only_new c =
    let es = c.args.self.now.tables.entries in
    let f = c.args.fact.now in
    let own : c.find_sorted_facts_of_key-facts.result.now ≡ table_at es f.key = c.find_sorted_facts_of_key-facts.ensures.table ∙ ap (table_at es) c.key.ensures in
    if_err c.from_residual-in_err-former.result
    (holds-tables es f c.args.self.now.stand ∙ ap (list_any (eq_by_cmp fact_cmp f)) (sym own) ∙ c.in-Err.ensures.absent)

pub invariant_of-self : goal.invariant_of-self
invariant_of-self c =
    let es = c.args.self.now.tables.entries in
    let f = c.args.fact.now in
    let i = c.in-Err.at in
    let own : c.find_sorted_facts_of_key-facts.result.now ≡ table_at es f.key = c.find_sorted_facts_of_key-facts.ensures.table ∙ ap (table_at es) c.key.ensures in
    let up : rises (insert (table_at es f.key) i f) ≡ true = ap (λ xs. rises (insert xs i f)) (sym own) ∙ c.in-Err.ensures.rising in
    let made : c.in_ok-table.table ≡ insert (table_at es f.key) i f = c.in_ok-table.ensures ∙ ap (λ xs. insert xs i f) own in
    record {
      stand =
          stand_after c.insert.result es c.insert.new.self.entries c.key-2.result.now c.in_ok-table.table c.args.self.now.stand
          (ap (λ k. is_table k c.in_ok-table.table) c.key-2.ensures ∙ ap (is_table f.key) made
          ∙ is_table-insert es f i c.args.self.now.stand up)
          c.insert.ensures.entries c.insert.ensures.err;
    }

pub returns-clause-added : goal.returns-clause-added
returns-clause-added c =
    let es = c.args.self.now.tables.entries in
    let f = c.args.fact.now in
    let i = c.in-Err.at in
    let own : c.find_sorted_facts_of_key-facts.result.now ≡ table_at es f.key = c.find_sorted_facts_of_key-facts.ensures.table ∙ ap (table_at es) c.key.ensures in
    let up : rises (insert (table_at es f.key) i f) ≡ true = ap (λ xs. rises (insert xs i f)) (sym own) ∙ c.in-Err.ensures.rising in
    let made : c.in_ok-table.table ≡ insert (table_at es f.key) i f = c.in_ok-table.ensures ∙ ap (λ xs. insert xs i f) own in
    one_more es c.insert.new.self.entries f i c.args.self.now.stand up
    (c.in_ok-former.ensures.entries ∙ ap (λ k. insert_entry key_cmp es k c.in_ok-table.table) c.key-2.ensures
    ∙ ap (insert_entry key_cmp es f.key) made)

pub returns-clause-new : goal.returns-clause-new
returns-clause-new c =
    let es = c.args.self.now.tables.entries in
    let f = c.args.fact.now in
    let own : c.find_sorted_facts_of_key-facts.result.now ≡ table_at es f.key = c.find_sorted_facts_of_key-facts.ensures.table ∙ ap (table_at es) c.key.ensures in
    is_new es f false c.args.self.now.stand (ap (list_any (eq_by_cmp fact_cmp f)) (sym own) ∙ c.in-Err.ensures.absent)

pub returns-clause-former : goal.returns-clause-former
returns-clause-former c =
    let es = c.args.self.now.tables.entries in
    let f = c.args.fact.now in
    let table = c.in_ok-table.table in
    let former = c.in_ok-former.former in
    let new = c.insert.new.self.entries in
    let put : new ≡ insert_entry key_cmp es f.key table =
    c.in_ok-former.ensures.entries ∙ ap (λ k. insert_entry key_cmp es k table) c.key-2.ensures in
    let was : former ≡ lookup (is_at (key_cmp f.key)) es =
    c.in_ok-former.ensures.old ∙ ap (λ k. lookup (is_at (key_cmp k)) es) c.key-2.ensures in
    ap (λ k. undo_one (k, former) new) c.key-3.ensures ∙ ap (λ o. undo_one (f.key, o) new) was
    ∙ ap (undo_one (f.key, lookup (is_at (key_cmp f.key)) es)) put ∙ undo_put es f.key table c.args.self.now.stand
