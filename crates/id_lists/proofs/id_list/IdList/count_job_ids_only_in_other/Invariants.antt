use Rattle.std.proofs.Common.{◌≡◌, ◌≤◌, take, filter, length}
use Rattle.id_lists.proofs.ListLaws.{is_lacked}
use Rattle.id_lists.proofs.id_list.IdList.count_job_ids_only_in_other.Given as goal

abbrev pub invariant-loop-ids : goal.invariant-loop-ids
invariant-loop-ids l = record {
  counted : l.count ≡ length (filter (is_lacked l.self-inside.ids.items) (take l.ids-index l.ids-items));
  few : l.count ≤ l.ids-index;
}
