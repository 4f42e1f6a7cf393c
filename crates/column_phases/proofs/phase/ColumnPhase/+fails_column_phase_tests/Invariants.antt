use Rattle.std.proofs.Common.{length}
use Rattle.column_phases.proofs.phase.ColumnPhase.+fails_column_phase_tests.Given as goal

abbrev pub decreases-fails_column_phase_tests : goal.decreases-fails_column_phase_tests
decreases-fails_column_phase_tests l = length l.tests.now
