use Rattle.std.proofs.Common.{ap, ◌∙◌, sym}
use Rattle.id_lists.proofs.ListLaws.{listed}
use Rattle.states.specs.IdSets.{ids_in_set}
use Rattle.id_lists.proofs.id_list.IdList.as_slice.Goals as goal

pub returns : goal.returns
returns c = c.as_slice.ensures.value ∙ sym (listed c.self.inside.ids.items c.self.invariant) ∙ ap ids_in_set c.self.view_is
