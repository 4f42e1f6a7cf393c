use Rattle.std.proofs.Common.{sym, subst, List}
use Rattle.std.specs.Prelude.{All}
use Rattle.operators.specs.declared.point_test.PointTest.{PointTest as KeptTest}
use Rattle.job.specs.WellFormed.{IsTest}
use Rattle.job.specs.Views.{test_view}
use Rattle.job.proofs.Steps.{All-from_map}
use Rattle.narrow_eval.proofs.narrow_points.NarrowPoints.find_narrow_case_interval_by_tests.Goals as goal

pub find_row_mask-requires : goal.find_row_mask-requires
find_row_mask-requires g c =
    subst (λ (ts : List KeptTest). All (λ t. IsTest (test_view t)) ts) (sym c.deref.ensures.value)
    (All-from_map IsTest test_view c.args.case.now.tests.items c.requires.tests)
