use Rattle.std.proofs.Common.{subst, List}
use Rattle.std.specs.Prelude.{All}
use Rattle.std.proofs.lemmas.List.{take_all}
use Rattle.std.proofs.lemmas.List.Elements.{All-nil, All-more, All-weaker}
use Rattle.job.specs.declared.stage.JobCase.{JobCase as KeptCase}
use Rattle.job.specs.Views.{case_view}
use Rattle.value_ranges.specs.inside.Found.{IsFoundCase}
use Rattle.value_ranges.proofs.Composing.{wider_through, wider_same, case_wider}
use Rattle.value_ranges.proofs.functions.widen_value_range_by_cases.Goals as goal

pub loop-case-init : goal.loop-case-init
loop-case-init c = (wider_same c.args.found, All-nil (λ (p : KeptCase). IsFoundCase c.args.ranges.now (case_view p) c.args.found))

pub loop-case-preserved : goal.loop-case-preserved
loop-case-preserved c =
    let step = c.widen_value_range_by_case-all.ensures in (
      wider_through _ _ _ c.loop-case.invariant.0 step.wider,
      All-more (λ (p : KeptCase). IsFoundCase c.args.ranges.now (case_view p) c.widen_value_range_by_case-all.result) c.args.cases.now c.loop-case.case-index
          c.case-item.result c.loop-case-test.true
          (All-weaker (λ (p : KeptCase). IsFoundCase c.args.ranges.now (case_view p) c.loop-case.all)
          (λ (p : KeptCase). IsFoundCase c.args.ranges.now (case_view p) c.widen_value_range_by_case-all.result)
          (λ p is. case_wider c.args.ranges.now (case_view p) _ _ step.wider is) _ c.loop-case.invariant.1)
          (subst (λ (p : KeptCase). IsFoundCase c.args.ranges.now (case_view p) c.widen_value_range_by_case-all.result) c.case-item.is step.case),
    )

pub returns-clause-cases : goal.returns-clause-cases
returns-clause-cases c =
    subst (λ (ps : List KeptCase). All (λ (p : KeptCase). IsFoundCase c.args.ranges.now (case_view p) c.loop-case.all) ps)
    (take_all c.loop-case.case-index c.args.cases.now c.loop-case-test.false) c.loop-case.invariant.1
