use Rattle.std.proofs.Common.{ap, ◌∙◌}
use Rattle.states.specs.IdSets.{with_ids}
use Rattle.id_lists.proofs.ListLaws.{once, one_more}
use Rattle.id_lists.specs.IdLists.{id_set}
use Rattle.id_lists.proofs.id_list.IdList.add_job_id.Goals as goal

pub returns-clause-added : goal.returns-clause-added
returns-clause-added c =
    once c.push.new.self.items c.sort_without_repeats.new.items.items c.sort_without_repeats.ensures.kept c.sort_without_repeats.ensures.none_new
    ∙ ap id_set c.in_ok-push.ensures.items ∙ one_more c.self.inside.ids.items c.args.ids.now
    ∙ ap (λ s. with_ids s c.args.ids.now) c.self.view_is
