use Rattle.std.proofs.Common.{ap, ◌∙◌, sym, subst}
use Rattle.std.specs.List.Sorted.{IsStrictlySortedBy}
use Rattle.identity.specs.Keys.{ids_cmp}
use Rattle.id_lists.proofs.ListLaws.{none}
use Rattle.id_lists.specs.IdLists.{id_set}
use Rattle.id_lists.proofs.id_list.IdList.new.Goals as goal

pub invariant_of-result : goal.invariant_of-result
unfolding IsStrictlySortedBy
invariant_of-result c = subst (IsStrictlySortedBy ids_cmp) (sym c.new.ensures.items) tt

pub returns : goal.returns
returns c = ap id_set c.new.ensures.items ∙ none
