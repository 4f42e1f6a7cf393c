use Rattle.std.proofs.Common.{◌≡◌, ◌++◌, ap, ◌∙◌}
use Rattle.states.specs.IdSets.{union}
use Rattle.id_lists.proofs.ListLaws.{once, two_lists}
use Rattle.id_lists.specs.IdLists.{id_set}
use Rattle.id_lists.proofs.id_list.IdList.build_union.Goals as goal

pub returns : goal.returns
returns c =
    let ours : c.push_listed_job_id_copies.new.copies.items ≡ c.self.inside.ids.items =
    c.in_ok-push_listed_job_id_copies.ensures ∙ ap (λ xs. xs ++ c.deref.result.now) c.in_ok-ids.ensures.items ∙ c.deref.ensures.value in
    once c.push_listed_job_id_copies-2.new.copies.items c.sort_without_repeats.new.items.items c.sort_without_repeats.ensures.kept c.sort_without_repeats.ensures.none_new
    ∙ ap id_set (c.in_ok-push_listed_job_id_copies-2.ensures ∙ (λ i. ours i ++ c.deref-2.ensures.value i))
    ∙ two_lists c.self.inside.ids.items c.other.inside.ids.items ∙ (λ i. union (c.self.view_is i) (c.other.view_is i))
