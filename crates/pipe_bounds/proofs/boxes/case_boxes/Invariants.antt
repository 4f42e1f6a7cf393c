use Rattle.std.proofs.Common.{ℕ, ◌≡◌, Option, Some, length, slice_get}
use Rattle.domains.specs.declared.area.Area.{Area}
use Rattle.pipe_tree.specs.Tree.{Branch, branches}
use Rattle.pipe_bounds.specs.StageBounds.{IsBox}
use Rattle.pipe_bounds.proofs.boxes.case_boxes.Given as goal

abbrev pub invariant-loop-case : goal.invariant-loop-case
invariant-loop-case l = record {
  each : length l.boxes.items ≡ l.case-index;
  box : (n : ℕ) (b : Branch) (o : Option Area) → slice_get (branches l.cases) n ≡ Some b → slice_get l.boxes.items n ≡ Some o
      → IsBox l.params l.row l.domain b.condition o;
}
