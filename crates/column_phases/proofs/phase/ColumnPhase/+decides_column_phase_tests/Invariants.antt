use Rattle.std.proofs.Common.{length}
use Rattle.column_phases.proofs.phase.ColumnPhase.+decides_column_phase_tests.Given as goal

abbrev pub decreases-decides_column_phase_tests : goal.decreases-decides_column_phase_tests
decreases-decides_column_phase_tests l = length l.tests.now
