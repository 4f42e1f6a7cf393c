use Rattle.std.proofs.Common.{ℕ, ◌<◌, ◌≡◌, Some, true, slice_get}
use Rattle.pipe_tree.specs.Tree.{Declaration, declarations}
use Rattle.pipe_checks.specs.Checking.{is_good}
use Rattle.pipe_checks.proofs.checked.check_all_items.Given as goal

abbrev pub invariant-loop-number : goal.invariant-loop-number
invariant-loop-number l =
    (k : ℕ) (d : Declaration) → k < l.number → slice_get (declarations l.items) k ≡ Some d → is_good l.declared d ≡ true
