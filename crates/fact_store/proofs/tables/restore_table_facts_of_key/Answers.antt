use Rattle.std.proofs.Common.{◌≡◌, None, ap, sym, ◌∙◌}
use Rattle.std.specs.BTreeMap.{is_at}
use Rattle.std.specs.Map.{lookup}
use Rattle.identity.specs.Keys.{key_cmp}
use Rattle.fact_store.proofs.UndoLaws.{set_missing}
use Rattle.fact_store.specs.inside.Tables.{undo_one}
use Rattle.fact_store.proofs.tables.restore_table_facts_of_key.Goals as goal

pub returns-in_default : goal.returns-in_default
returns-in_default c =
    let es = c.args.tables.now.entries in
    let k = c.args.key.now in
    let none : lookup (is_at (key_cmp k)) es ≡ None = sym (rw c.in_default.is at c.get_mut.ensures.value) in
    ap (λ m. m.entries) c.get_mut.follows.holds-at-none
    ∙ sym (ap (λ o. undo_one (k, o) es) c.in-Some.is ∙ set_missing k es c.in-Some.table none)
