use Rattle.std.proofs.Common.{ℕ, ◌<◌, ◌≡◌, Some, map, slice_get}
use Rattle.pipe_tree.specs.Tree.{branches}
use Rattle.pipe_bounds.specs.InBounds.{ReadCase, AllStay, IsInBox, branch_case}
use Rattle.pipe_bounds.specs.StageBounds.{domains_in}
use Rattle.pipe_bounds.proofs.reader.BoundsChecker.check_cases_reads.Given as goal

abbrev pub invariant-loop-number : goal.invariant-loop-number
invariant-loop-number l =
    (n : ℕ) (x : ReadCase) → n < l.number → slice_get (map (branch_case l.self.stages.now l.row) (branches l.cases)) n ≡ Some x
    → AllStay (domains_in l.self.found.now) (IsInBox l.self.params.now l.self.domain.now x) x.accesses
