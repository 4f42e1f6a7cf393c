use Rattle.std.proofs.Common.{ℕ, ◌<◌, ◌≡◌, Some, slice_get}
use Rattle.pipe_tree.specs.Tree.{declarations}
use Rattle.pipe_checks.specs.declared.symbol.Symbol.{Symbol}
use Rattle.pipe_bounds.specs.StageBounds.{domains_in}
use Rattle.pipe_bounds.specs.InBounds.{StaysAt}
use Rattle.pipe_bounds.proofs.within.check_bounds_of_all_stage_reads.Given as goal

abbrev pub invariant-loop-stage : goal.invariant-loop-stage
invariant-loop-stage l =
    (k : ℕ) (s : Symbol) → k < l.stage → slice_get l.stages k ≡ Some s
    → StaysAt l.params (declarations l.items) l.stages (domains_in l.found) k s
