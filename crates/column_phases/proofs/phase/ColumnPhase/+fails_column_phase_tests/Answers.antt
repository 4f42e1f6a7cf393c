use Rattle.std.proofs.Common.{rules, arith}
use Rattle.std.proofs.lemmas.List.Elements.{All-map, All-take, All-drop}
use Rattle.job.proofs.Steps.{All-from_map}
use Rattle.operators.specs.Views.{test_view}
use Rattle.column_phases.specs.Phases.{IsDecided}
use Rattle.column_phases.proofs.phase.ColumnPhase.+fails_column_phase_tests.Goals as goal

pub fails_column_phase_test-requires : goal.fails_column_phase_test-requires
fails_column_phase_test-requires t c =
    All-from_map (IsDecided c.args.self.now.period) test_view c.args.tests.now c.requires.decided 0 _ (omega (arith, c.in-len1-up.len_at_least))

pub fails_column_phase_tests-requires : goal.fails_column_phase_tests-requires
fails_column_phase_tests-requires t c =
    let P = IsDecided c.args.self.now.period in (
      search rules,
      All-map P test_view _
          (All-take (λ t. P (test_view t)) _ _
          (All-drop (λ t. P (test_view t)) 1 c.args.tests.now (All-from_map P test_view c.args.tests.now c.requires.decided))),
    )
