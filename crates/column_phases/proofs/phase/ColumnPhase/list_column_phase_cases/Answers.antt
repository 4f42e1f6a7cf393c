use Rattle.std.proofs.Common.{rules, ◌≡◌, map, sym, ap, ◌∙◌, Bool, Some, None}
use Rattle.std.specs.Prelude.{All, if◌then◌else◌}
use Rattle.operators.specs.Views.{test_view}
use Rattle.job.specs.Views.{case_view}
use Rattle.column_phases.specs.Phases.{IsDecided, Steps, fails_any, phase_case, phase_case_if}
use Rattle.column_phases.proofs.ListLaws.{all_grown, made_grown, none_grown}
use Rattle.column_phases.proofs.phase.ColumnPhase.list_column_phase_cases.Goals.{then-not-fails_column_phase_tests+in_ok-push, else-not-fails_column_phase_tests}
use Rattle.column_phases.proofs.phase.ColumnPhase.list_column_phase_cases.Goals as goal

pub loop-case-preserved : goal.loop-case-preserved
loop-case-preserved c =
    let P = c.args.self.now.period in
    let p = c.args.self.now.rest in
    let i = c.loop-case.case-index in
    let x = c.case-item.result in
    let mine : All (IsDecided P) (case_view x).tests = search rules in
    let says : c.fails_column_phase_tests.result ≡ fails_any P p (map test_view x.tests.items) =
    c.fails_column_phase_tests.ensures ∙ ap (λ ts. fails_any P p (map test_view ts)) c.tests-in-loop-case.ensures in
    record {
      made =
          elim c.if-not-fails_column_phase_tests.branch [
            | then-not-fails_column_phase_tests+in_ok-push w ↦ ((λ j. map case_view (w.made-is j).items) ∙ ap (map case_view) w.in_ok-push.ensures.items
                ∙ made_grown (phase_case_if P p) case_view case_view c.args.cases.now c.loop-case.made.items i x c.loop-case-test.true c.case-item.is
                c.loop-case.invariant.made c.in_ok-phase.phase
                (ap Some c.in_ok-phase.ensures.made
                ∙ sym (ap (λ (b : Bool). if b then None else Some (phase_case P p (case_view x))) (sym says ∙ w.if-not-fails_column_phase_tests.true))))
            | else-not-fails_column_phase_tests w ↦ ((λ j. map case_view (w.made-is j).items)
                ∙ none_grown (phase_case_if P p) case_view case_view c.args.cases.now c.loop-case.made.items i x c.loop-case-test.true c.case-item.is
                c.loop-case.invariant.made
                (sym (ap (λ (b : Bool). if b then None else Some (phase_case P p (case_view x))) (sym says ∙ w.if-not-fails_column_phase_tests.false))))
          ];
      decided =
          all_grown (λ q. All (IsDecided P) q.tests) case_view c.args.cases.now i x c.loop-case-test.true c.case-item.is
          c.loop-case.invariant.decided mine;
      steps =
          all_grown (λ q. Steps P p q.formula) case_view c.args.cases.now i x c.loop-case-test.true c.case-item.is
          c.loop-case.invariant.steps c.in_ok-phase.ensures.steps;
    }
