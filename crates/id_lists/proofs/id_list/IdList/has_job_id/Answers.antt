use Rattle.std.proofs.Common.{ap, ◌∙◌, sym}
use Rattle.std.specs.List.{list_any}
use Rattle.std.specs.Ordering.{eq_by_cmp}
use Rattle.identity.specs.Keys.{ids_cmp}
use Rattle.states.specs.IdSets.{has}
use Rattle.id_lists.proofs.ListLaws.{has-id_set}
use Rattle.id_lists.proofs.id_list.IdList.has_job_id.Goals as goal

pub returns : goal.returns
returns c =
    c.has_listed_job_id.ensures ∙ ap (list_any (eq_by_cmp ids_cmp c.args.ids.now)) c.deref.ensures.value
    ∙ sym (has-id_set c.self.inside.ids.items c.args.ids.now) ∙ ap (λ s. has s c.args.ids.now) c.self.view_is
