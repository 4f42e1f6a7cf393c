use Rattle.std.proofs.Common.{◌≡◌, ◌∙◌, ap, sym, subst, map, List}
use Rattle.std.specs.Prelude.{All}
use Rattle.std.specs.Option.{option_map}
use Rattle.std.proofs.lemmas.List.Elements.{All-map}
use Rattle.std.proofs.lemmas.Option.{same_Some}
use Rattle.job.specs.Kept.{pipeline_in}
use Rattle.job.specs.Pipeline.{Stage}
use Rattle.job.specs.Reads.{Read, stage_read, reads_of}
use Rattle.job.specs.ReadViews.{read_view}
use Rattle.job.specs.Views.{stage_view, body_view, case_view, formula_view}
use Rattle.value_ranges.specs.Ranges.{HasNarrowRange}
use Rattle.value_ranges.proofs.Reaching.{narrow_stage}
use Rattle.value_ranges.proofs.stages.is_narrow_stage.Goals as goal

pub returns-clause-function : goal.returns-clause-function
returns-clause-function c = λ e.
    let there = sym c.stage.ensures ∙ ap (option_map (λ s. stage_view s.now)) c.in-Some.is in
    narrow_stage (pipeline_in c.args.job.now) c.args.job.now.well c.args.ranges.now c.requires c.args.stage (stage_view c.in-Some.stage.now)
    there (map case_view c.in-Function.function.cases.items) (option_map formula_view c.in-Function.function.otherwise)
    (ap body_view (sym c.body.ensures ∙ c.in-Function.is)) c.find_value_range_of_function-found.result
    c.find_value_range_of_function-found.ensures (c.are_both_narrow.ensures e).0

pub returns-clause-reads : goal.returns-clause-reads
returns-clause-reads c = λ e s is.
    let there = sym c.stage.ensures ∙ ap (option_map (λ s. stage_view s.now)) c.in-Some.is in
    let same = same_Some (stage_view c.in-Some.stage.now) s (sym there ∙ is) in
    let body : reads_of (stage_view c.in-Some.stage.now).body ≡ map read_view c.reads.result.now =
    ap (λ b. reads_of (body_view b)) (sym c.body.ensures ∙ c.in-Function.is) ∙ sym c.reads.ensures in
    let narrow : All (λ (x : Read). HasNarrowRange c.args.ranges.now (stage_read x)) (map read_view c.reads.result.now) =
    All-map (λ (x : Read). HasNarrowRange c.args.ranges.now (stage_read x)) read_view c.reads.result.now
    (c.read_narrow_value_ranges_only-reads.ensures (c.are_both_narrow.ensures e).1) in
    subst (λ (t : Stage). All (λ (x : Read). HasNarrowRange c.args.ranges.now (stage_read x)) (reads_of t.body)) same
    (subst (λ (xs : List Read). All (λ (x : Read). HasNarrowRange c.args.ranges.now (stage_read x)) xs) (sym body) narrow)
