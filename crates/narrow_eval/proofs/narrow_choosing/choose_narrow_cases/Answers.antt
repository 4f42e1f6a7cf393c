use Rattle.std.proofs.Common.{◌≡◌, ◌+◌, ◌++◌, List, [], ◌∷◌, map, take, subst, sym, ap, ◌∙◌}
use Rattle.std.specs.Prelude.{slice_index_or}
use Rattle.std.proofs.lemmas.List.{take_more, map-append}
use Rattle.job.specs.Views.{case_view}
use Rattle.job.specs.declared.stage.JobCase.{JobCase as KeptCase}
use Rattle.narrow_eval.specs.NarrowPrograms.{program_case}
use Rattle.narrow_eval.proofs.narrow_choosing.choose_narrow_cases.Goals as goal

pub loop-case-preserved : goal.loop-case-preserved
loop-case-preserved c =
    let given : List KeptCase = c.args.cases.now in
    let i = c.loop-case.case-index in
    let case = c.case-item.result in
    ap (map program_case) c.in_ok-push.ensures.items
    ∙ map-append program_case c.loop-case.made.items (c.in_ok-choose_narrow_case.field-0 ∷ [])
    ∙ (λ j. c.loop-case.invariant j ++ c.in_ok-choose_narrow_case.ensures j ∷ [])
    ∙ (λ j. map case_view (take i given) ++ case_view (c.case-item.is j) ∷ [])
    ∙ sym (map-append case_view (take i given) (slice_index_or given i case ∷ []))
    ∙ ap (map case_view) (sym (take_more given i case c.loop-case-test.true))
