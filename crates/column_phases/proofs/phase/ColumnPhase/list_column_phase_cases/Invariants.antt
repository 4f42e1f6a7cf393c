use Rattle.std.proofs.Common.{◌≡◌, map, take}
use Rattle.std.specs.Prelude.{All}
use Rattle.job.specs.Views.{case_view}
use Rattle.column_phases.specs.Phases.{IsDecided, Steps, phase_cases}
use Rattle.column_phases.proofs.phase.ColumnPhase.list_column_phase_cases.Given as goal

abbrev pub invariant-loop-case : goal.invariant-loop-case
invariant-loop-case l = record {
  made : map case_view l.made.items ≡ phase_cases l.self.period l.self.rest (map case_view (take l.case-index l.cases));
  decided : All (λ q. All (IsDecided l.self.period) q.tests) (map case_view (take l.case-index l.cases));
  steps : All (λ q. Steps l.self.period l.self.rest q.formula) (map case_view (take l.case-index l.cases));
}
