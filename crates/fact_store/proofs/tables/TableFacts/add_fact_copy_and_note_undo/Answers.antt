use Rattle.std.proofs.Common.{◌≡◌, ◌++◌, ◌∷◌, [], ap, ◌∙◌}
use Rattle.fact_store.proofs.UndoLaws.{undone_more}
use Rattle.fact_store.specs.inside.Tables.{undone}
use Rattle.fact_store.proofs.tables.TableFacts.add_fact_copy_and_note_undo.Goals as goal

pub returns-in-Some-clause-undo : goal.returns-in-Some-clause-undo
returns-in-Some-clause-undo c =
    let us = c.args.undo.now.items in
    let u = c.in-Some.former in
    let new = c.add_fact_copy_and_get_former_entry.new.self.tables.entries in
    let noted : c.push_reserved.new.self.items ≡ us ++ u ∷ [] =
    c.push_reserved.ensures.items ∙ ap (λ vs. vs ++ u ∷ []) c.reserve.ensures.items in
    ap (λ vs. undone vs new) noted ∙ undone_more us u new
    ∙ ap (undone us) (rw c.in-Some.is at c.in_ok-former.ensures.former)
