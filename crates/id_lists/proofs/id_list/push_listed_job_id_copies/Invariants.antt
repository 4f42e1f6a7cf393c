use Rattle.std.proofs.Common.{◌≡◌, ◌++◌, take}
use Rattle.id_lists.proofs.id_list.push_listed_job_id_copies.Given as goal

abbrev pub invariant-loop-one : goal.invariant-loop-one
invariant-loop-one l = l.copies.items ≡ l.fn.copies.items ++ take l.one-index l.ids
