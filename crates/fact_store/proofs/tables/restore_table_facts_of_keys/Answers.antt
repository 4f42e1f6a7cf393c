use Rattle.std.proofs.Common.{◌≡◌, ◌++◌, ◌∷◌, [], ap, sym, ◌∙◌}
use Rattle.fact_store.proofs.UndoLaws.{undone_more}
use Rattle.fact_store.specs.inside.Tables.{undone}
use Rattle.fact_store.proofs.tables.restore_table_facts_of_keys.Goals as goal

pub loop-key-preserved : goal.loop-key-preserved
loop-key-preserved c =
    let rest = c.pop.new.self.items in
    let now = c.loop-key.tables.entries in
    let popped : c.loop-key.rest.items ≡ rest ++ (c.in-Some.key, c.in-Some.former) ∷ [] = rw c.in-Some.is at c.pop.ensures.items in
    ap (undone rest) c.restore_table_facts_of_key.ensures ∙ sym (undone_more rest (c.in-Some.key, c.in-Some.former) now)
    ∙ ap (λ us. undone us now) (sym popped) ∙ c.loop-key.invariant
