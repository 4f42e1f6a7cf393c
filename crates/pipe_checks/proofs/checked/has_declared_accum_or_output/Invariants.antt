use Rattle.std.proofs.Common.{◌≡◌, drop}
use Rattle.std.specs.List.{list_any}
use Rattle.pipe_tree.specs.Tree.{declarations}
use Rattle.pipe_checks.specs.Checking.{is_result}
use Rattle.pipe_checks.proofs.checked.has_declared_accum_or_output.Given as goal

abbrev pub invariant-loop-item : goal.invariant-loop-item
invariant-loop-item l = list_any is_result (declarations (drop l.item-index l.items)) ≡ list_any is_result (declarations l.items)
