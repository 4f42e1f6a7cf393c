use Rattle.std.proofs.Common.{drop}
use Rattle.pipe_bounds.proofs.Cutting.{IsLeft}
use Rattle.pipe_bounds.proofs.boxes.case_box.Given as goal

abbrev pub invariant-loop-test : goal.invariant-loop-test
invariant-loop-test l = IsLeft l.params l.row l.domain l.tests l.left (drop l.test-index l.tests)
