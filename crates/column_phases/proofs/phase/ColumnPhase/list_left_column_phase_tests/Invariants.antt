use Rattle.std.proofs.Common.{◌≡◌, map, take}
use Rattle.std.specs.Prelude.{filter_map}
use Rattle.operators.specs.Views.{test_view}
use Rattle.column_phases.specs.Phases.{left}
use Rattle.column_phases.proofs.phase.ColumnPhase.list_left_column_phase_tests.Given as goal

abbrev pub invariant-loop-test : goal.invariant-loop-test
invariant-loop-test l = map test_view l.made.items ≡ filter_map (left l.self.period l.self.rest) (map test_view (take l.test-index l.tests))
