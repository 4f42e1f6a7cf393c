use Rattle.std.proofs.Common.{◌≡◌, ℤ, Some, slice_get, subst, sym, ap, ◌∙◌}
use Rattle.std.specs.Global.{Vec}
use Rattle.std.proofs.lemmas.Result.{IfOk-weaker}
use Rattle.job.specs.declared.stage.Body.TheVariants.{Accumulator}
use Rattle.job.specs.Kept.{pipeline_in}
use Rattle.job.specs.Pipeline.{Body, Stage, Pipeline}
use Rattle.job.specs.Reads.{BodyReads}
use Rattle.job.specs.Totals.{body_totals, totals_over}
use Rattle.job.specs.Values.{Valuation}
use Rattle.job.specs.Views.{body_view, stage_view}
use Rattle.whole_stages.specs.Known.{sample_in, IsKnownAt, IsServed}
use Rattle.whole_stages.specs.declared.buffers.StageBuffers.{StageBuffers}
use Rattle.reductions.proofs.WholeTotals.{has_formulas, accumulator_inputs, part_reads, part_totals, part_near}
use Rattle.reductions.proofs.whole_totals.compute_true_area_totals.Goals as goal

pub compute_area_totals-requires-clause-rows : goal.compute_area_totals-requires-clause-rows
compute_area_totals-requires-clause-rows c =
    let job : Pipeline = pipeline_in c.args.stages.now.job.now in
    let s : Stage = stage_view c.in-Some.found.now in
    let there : slice_get job.stages c.args.stage ≡ Some s =
    sym (c.in-Some.ensures ∙ ap (λ j. slice_get (pipeline_in j).stages c.args.stage) c.job.ensures) in
    let is : s.body ≡ body_view (Accumulator c.in-Accumulator.accumulator) = ap body_view (sym c.body.ensures ∙ c.in-Accumulator.is) in
    let buffers = c.known_buffers.result.now.buffers.items in
    let served = subst (λ (k : StageBuffers). IsServed job k.buffers.items c.args.stage) (sym c.known_buffers.ensures.known) c.requires.served in
    let inputs = accumulator_inputs job buffers c.args.stage s c.in-Accumulator.accumulator there is served in
    (part_near job buffers c.args.stage s c.args.area.now c.args.stages.now.job.now.well there c.known_buffers.ensures.right c.requires.part
    inputs).0

pub compute_area_totals-requires-clause-cols : goal.compute_area_totals-requires-clause-cols
compute_area_totals-requires-clause-cols c =
    let job : Pipeline = pipeline_in c.args.stages.now.job.now in
    let s : Stage = stage_view c.in-Some.found.now in
    let there : slice_get job.stages c.args.stage ≡ Some s =
    sym (c.in-Some.ensures ∙ ap (λ j. slice_get (pipeline_in j).stages c.args.stage) c.job.ensures) in
    let is : s.body ≡ body_view (Accumulator c.in-Accumulator.accumulator) = ap body_view (sym c.body.ensures ∙ c.in-Accumulator.is) in
    let buffers = c.known_buffers.result.now.buffers.items in
    let served = subst (λ (k : StageBuffers). IsServed job k.buffers.items c.args.stage) (sym c.known_buffers.ensures.known) c.requires.served in
    let inputs = accumulator_inputs job buffers c.args.stage s c.in-Accumulator.accumulator there is served in
    (part_near job buffers c.args.stage s c.args.area.now c.args.stages.now.job.now.well there c.known_buffers.ensures.right c.requires.part
    inputs).1

pub compute_area_totals-requires-clause-formulas : goal.compute_area_totals-requires-clause-formulas
compute_area_totals-requires-clause-formulas c =
    let job : Pipeline = pipeline_in c.args.stages.now.job.now in
    let s : Stage = stage_view c.in-Some.found.now in
    let there : slice_get job.stages c.args.stage ≡ Some s =
    sym (c.in-Some.ensures ∙ ap (λ j. slice_get (pipeline_in j).stages c.args.stage) c.job.ensures) in
    has_formulas job s c.in-Accumulator.accumulator (c.args.stages.now.job.now.well.stages c.args.stage s there)
    (ap body_view (sym c.body.ensures ∙ c.in-Accumulator.is))

pub compute_area_totals-requires-clause-reads : goal.compute_area_totals-requires-clause-reads
compute_area_totals-requires-clause-reads c = λ r k inside.
    let job : Pipeline = pipeline_in c.args.stages.now.job.now in
    let s : Stage = stage_view c.in-Some.found.now in
    let there : slice_get job.stages c.args.stage ≡ Some s =
    sym (c.in-Some.ensures ∙ ap (λ j. slice_get (pipeline_in j).stages c.args.stage) c.job.ensures) in
    let is : s.body ≡ body_view (Accumulator c.in-Accumulator.accumulator) = ap body_view (sym c.body.ensures ∙ c.in-Accumulator.is) in
    let buffers = c.known_buffers.result.now.buffers.items in
    let served = subst (λ (k : StageBuffers). IsServed job k.buffers.items c.args.stage) (sym c.known_buffers.ensures.known) c.requires.served in
    let inputs = accumulator_inputs job buffers c.args.stage s c.in-Accumulator.accumulator there is served in
    subst (λ (b : Body). BodyReads (IsKnownAt buffers) b r k) is
    (part_reads job buffers c.args.stage s c.args.area.now c.args.stages.now.job.now.well there c.known_buffers.ensures.right c.requires.part inputs
    r k
    inside)

pub returns-in-Accumulator : goal.returns-in-Accumulator
returns-in-Accumulator c =
    let job : Pipeline = pipeline_in c.args.stages.now.job.now in
    let s : Stage = stage_view c.in-Some.found.now in
    let there : slice_get job.stages c.args.stage ≡ Some s =
    sym (c.in-Some.ensures ∙ ap (λ j. slice_get (pipeline_in j).stages c.args.stage) c.job.ensures) in
    let is : s.body ≡ body_view (Accumulator c.in-Accumulator.accumulator) = ap body_view (sym c.body.ensures ∙ c.in-Accumulator.is) in
    let buffers = c.known_buffers.result.now.buffers.items in
    let served = subst (λ (k : StageBuffers). IsServed job k.buffers.items c.args.stage) (sym c.known_buffers.ensures.known) c.requires.served in
    let inputs = accumulator_inputs job buffers c.args.stage s c.in-Accumulator.accumulator there is served in
    let env : Valuation = λ h i j. sample_in (slice_get buffers h) i j in
    IfOk-weaker c.compute_area_totals.result _ (λ (bins : Vec ℤ). bins.items ≡ totals_over job c.args.area.now c.args.stage) (λ bins e.
    e ∙ ap (body_totals env c.args.area.now) (sym is)
    ∙ part_totals job buffers c.args.stage s c.args.area.now c.args.stages.now.job.now.well there c.known_buffers.ensures.right c.requires.part
    inputs)
    c.compute_area_totals.ensures
