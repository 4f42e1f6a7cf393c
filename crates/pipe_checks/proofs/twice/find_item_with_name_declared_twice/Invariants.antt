use Rattle.std.proofs.Common.{ℕ, ◌<◌, ◌≡◌, Some, slice_get}
use Rattle.pipe_tree.specs.Tree.{Declaration, declarations}
use Rattle.pipe_checks.specs.Names.{symbols_declared_by_items}
use Rattle.pipe_checks.specs.Checking.{IsTwice}
use Rattle.pipe_checks.proofs.twice.find_item_with_name_declared_twice.Given as goal

abbrev pub invariant-loop-number : goal.invariant-loop-number
invariant-loop-number l =
    ((k : ℕ) (d : Declaration) → k < l.number → slice_get (declarations l.items) k ≡ Some d
    → IsTwice (symbols_declared_by_items (declarations l.items)) k d → ⊥)
    × ((k : ℕ) → k < l.number → l.declared.again ≡ Some k → ⊥)
