use Rattle.std.proofs.Common.{arith, ◌≡◌, ◌∙◌, ap, sym, refl, pos, to_z, of_z, w32, map}
use Rattle.std.specs.Option.{option_map}
use Rattle.std.proofs.lemmas.Int.{to_z-of_z}
use Rattle.job.specs.Kept.{pipeline_in}
use Rattle.job.specs.Views.{stage_view, body_view, case_view, formula_view}
use Rattle.value_ranges.specs.declared.value_range.ValueRange.{ValueRange}
use Rattle.value_ranges.proofs.Reaching.{function_range, plane_range, full_is}
use Rattle.value_ranges.proofs.stages.find_value_range_of_stage.Goals as goal

pub returns-in-Plane : goal.returns-in-Plane
returns-in-Plane c =
    let job = pipeline_in c.args.job.now in
    let there = sym c.stage.ensures ∙ ap (option_map (λ s. stage_view s.now)) c.in-Some.is in
    let found : ValueRange = record { lo = pos 0; hi = to_z w32 (of_z w32 c.from.result) } in
    let high : found.hi ≡ pos job.picture.max =
    grind (arith, to_z-of_z, c.from.ensures, c.max.ensures.value, c.picture.ensures) in
    plane_range job c.args.job.now.well c.args.ranges.now c.requires.each c.args.stage (stage_view c.in-Some.stage.now) there c.in-Plane.field-0
    found (ap body_view (sym c.body.ensures ∙ c.in-Plane.is)) refl high

pub returns-in-Function : goal.returns-in-Function
returns-in-Function c =
    let there = sym c.stage.ensures ∙ ap (option_map (λ s. stage_view s.now)) c.in-Some.is in
    function_range (pipeline_in c.args.job.now) c.args.job.now.well c.args.ranges.now c.requires.each c.args.stage (stage_view c.in-Some.stage.now)
    there (map case_view c.in-Function.function.cases.items) (option_map formula_view c.in-Function.function.otherwise)
    (ap body_view (sym c.body.ensures ∙ c.in-Function.is)) c.find_value_range_of_function.result c.find_value_range_of_function.ensures

pub returns-in-Accumulator : goal.returns-in-Accumulator
returns-in-Accumulator c = full_is (pipeline_in c.args.job.now) c.args.job.now.well _ c.full_value_range-in-Accumulator.result c.full_value_range-in-Accumulator.ensures
