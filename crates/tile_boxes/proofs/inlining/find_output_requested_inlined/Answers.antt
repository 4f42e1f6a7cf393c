use Rattle.std.proofs.Common.{arith, ◌<◌, ◌≤◌, ◌≡◌, ap, sym, ◌∙◌, length, map}
use Rattle.std.proofs.lemmas.Bool.{false≢true}
use Rattle.std.proofs.lemmas.List.{length-map}
use Rattle.job.specs.Kept.{pipeline_in}
use Rattle.job.specs.Views.{stage_view}
use Rattle.tile_boxes.proofs.AskedIsSchedule.{none_more, first_is, none_at_all}
use Rattle.tile_boxes.proofs.inlining.find_output_requested_inlined.Goals as goal
use Rattle.tile_boxes.proofs.inlining.find_output_requested_inlined.Goals.{else-is_function_and_requested_inlined-via-then-is_function_and_requested_inlined+else-is_output}
use Rattle.tile_boxes.proofs.inlining.find_output_requested_inlined.Goals.{else-is_function_and_requested_inlined-via-else-is_function_and_requested_inlined}

pub returns-then-is_output-clause-some : goal.returns-then-is_output-clause-some
returns-then-is_output-clause-some c =
    let job = pipeline_in c.args.job.now in
    let stages = c.stages-number-end.result.now in
    let counted : length (map stage_view stages) ≡ length job.stages = ap length c.stages-number-end.ensures in
    let below : c.loop-number.number < length job.stages = omega (arith, counted, length-map stages stage_view, c.loop-number-test.true) in
    first_is job c.args.asked.now c.loop-number.number below c.loop-number.invariant (sym c.is_function_and_requested_inlined.ensures ∙ c.if-is_function_and_requested_inlined.true)
    (sym c.is_output.ensures ∙ c.if-is_output.true)

pub loop-number-preserved : goal.loop-number-preserved
loop-number-preserved c =
    let job = pipeline_in c.args.job.now in
    let stages = c.stages-number-end.result.now in
    let counted : length (map stage_view stages) ≡ length job.stages = ap length c.stages-number-end.ensures in
    let below : c.loop-number.number < length job.stages = omega (arith, counted, length-map stages stage_view, c.loop-number-test.true) in
    none_more job c.args.asked.now c.loop-number.number below c.loop-number.invariant
    (λ inlined. elim c.else-is_function_and_requested_inlined.branch [
      | else-is_function_and_requested_inlined-via-then-is_function_and_requested_inlined+else-is_output w ↦ sym w.is_output.ensures ∙ w.if-is_output.false
      | else-is_function_and_requested_inlined-via-else-is_function_and_requested_inlined w ↦ absurd (false≢true (sym w.if-is_function_and_requested_inlined.false ∙ c.is_function_and_requested_inlined.ensures ∙ inlined))
    ])

pub returns-clause-none : goal.returns-clause-none
returns-clause-none c =
    let job = pipeline_in c.args.job.now in
    let stages = c.stages-number-end.result.now in
    let counted : length (map stage_view stages) ≡ length job.stages = ap length c.stages-number-end.ensures in
    let past : length job.stages ≤ c.loop-number.number = omega
    (arith, counted, length-map stages stage_view, c.loop-number-test.false, c.loop-number.auto.number-end) in
    none_at_all job c.args.asked.now c.loop-number.number past c.loop-number.invariant
