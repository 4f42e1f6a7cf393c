use Rattle.std.proofs.Common.{◌≡◌, map, drop}
use Rattle.operators.specs.Values.{all_passed}
use Rattle.operators.specs.Views.{test_view}
use Rattle.row_kernels.proofs.guards.is_every_mask_test_passed_at_point.Given as goal

abbrev pub invariant-loop-test : goal.invariant-loop-test
invariant-loop-test l =
    all_passed (map test_view l.fn.tests) l.fn.row l.fn.col ≡ all_passed (map test_view (drop l.test-index l.fn.tests)) l.fn.row l.fn.col
