use Rattle.std.proofs.Common.{map, ap, ◌∙◌}
use Rattle.job.proofs.Steps.{All-from_map}
use Rattle.operators.specs.Views.{test_view}
use Rattle.column_phases.specs.Phases.{IsDecided, left}
use Rattle.column_phases.proofs.ListLaws.{made_at, none_at}
use Rattle.column_phases.proofs.phase.ColumnPhase.list_left_column_phase_tests.Goals.{in-Some+in_ok-push, in_default}
use Rattle.column_phases.proofs.phase.ColumnPhase.list_left_column_phase_tests.Goals as goal

pub find_left_column_phase_test-requires : goal.find_left_column_phase_test-requires
find_left_column_phase_test-requires c =
    All-from_map (IsDecided c.args.self.now.period) test_view c.args.tests.now c.requires c.loop-test.test-index _ c.loop-test-test.true

pub loop-test-preserved : goal.loop-test-preserved
loop-test-preserved c =
    let f = left c.args.self.now.period c.args.self.now.rest in
    elim c.match-find_left_column_phase_test.branch [
      | in-Some+in_ok-push w ↦ ((λ j. map test_view (w.made-is j).items) ∙ ap (map test_view) w.in_ok-push.ensures.items
          ∙ made_at f test_view test_view c.args.tests.now c.loop-test.made.items c.loop-test.test-index _ c.loop-test-test.true c.loop-test.invariant
          w.in-Some.test w.in-Some.ensures)
      | in_default w ↦ ((λ j. map test_view (w.made-is j).items)
          ∙ none_at f test_view test_view c.args.tests.now c.loop-test.made.items c.loop-test.test-index _ c.loop-test-test.true c.loop-test.invariant
          w.in_default.ensures)
    ]
