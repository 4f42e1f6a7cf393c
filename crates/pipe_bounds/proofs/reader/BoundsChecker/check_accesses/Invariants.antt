use Rattle.std.proofs.Common.{ℕ, ◌<◌, ◌≡◌, Some, slice_get}
use Rattle.domains.specs.Area.{HoldsPoint}
use Rattle.pipe_checks.specs.declared.access.Access.{Access}
use Rattle.pipe_bounds.specs.InBounds.{Stays}
use Rattle.pipe_bounds.specs.StageBounds.{domains_in}
use Rattle.pipe_bounds.proofs.reader.BoundsChecker.check_accesses.Given as goal

abbrev pub invariant-loop-read : goal.invariant-loop-read
invariant-loop-read l =
    (m : ℕ) (x : Access) → m < l.read → slice_get l.accesses m ≡ Some x → Stays (domains_in l.self.found.now) (HoldsPoint l.area) x
