use Rattle.std.proofs.Common.{ap, sym, ◌∙◌, subst}
use Rattle.job.specs.Kept.{pipeline_in}
use Rattle.job.specs.Pipeline.{Body}
use Rattle.job.specs.Reads.{BodyReads}
use Rattle.job.specs.Totals.{body_totals}
use Rattle.overlap_tiles.specs.Views.{step_view}
use Rattle.one_tile.specs.Prepared.{IsInputAt, input_at}
use Rattle.one_tile.proofs.LayoutsPrepare.{own_layout}
use Rattle.reductions.specs.Bins.{joined_bins}
use Rattle.partials.proofs.PartialsJoin.{prepared_near, prepared_reads, local_totals_is, step_prepared, step_area}
use Rattle.reductions.proofs.WholeTotals.{has_formulas}
use Rattle.partials.proofs.partials.accumulate_last_step_partial.Goals as goal

pub accumulate_area_into_bins-requires-clause-rows : goal.accumulate_area_into_bins-requires-clause-rows
accumulate_area_into_bins-requires-clause-rows g c =
    let t = c.args.tile.now in
    let job = pipeline_in t.job.now in
    let l = t.layout.now in
    let given = g.K.TileSource.given t.known.now in
    let step = c.args.step.now in
    let a = c.requires.accumulator in
    let some = c.requires.layout in
    let own = own_layout job some.inlining given l some.stage some.row some.col some.layout in
    let prepared = step_prepared job l given c.in_ok-boxes.boxes some.stage some.row some.col own (step_view step) c.requires.last
    c.in_ok-boxes.ensures.prepared in
    (prepared_near job l given c.in_ok-boxes.boxes step.stage a.stage a.there step.area prepared t.job.now.well
    (step_area job l given some.stage some.row some.col own (step_view step) c.requires.last t.job.now.well)).0

pub accumulate_area_into_bins-requires-clause-cols : goal.accumulate_area_into_bins-requires-clause-cols
accumulate_area_into_bins-requires-clause-cols g c =
    let t = c.args.tile.now in
    let job = pipeline_in t.job.now in
    let l = t.layout.now in
    let given = g.K.TileSource.given t.known.now in
    let step = c.args.step.now in
    let a = c.requires.accumulator in
    let some = c.requires.layout in
    let own = own_layout job some.inlining given l some.stage some.row some.col some.layout in
    let prepared = step_prepared job l given c.in_ok-boxes.boxes some.stage some.row some.col own (step_view step) c.requires.last
    c.in_ok-boxes.ensures.prepared in
    (prepared_near job l given c.in_ok-boxes.boxes step.stage a.stage a.there step.area prepared t.job.now.well
    (step_area job l given some.stage some.row some.col own (step_view step) c.requires.last t.job.now.well)).1

pub accumulate_area_into_bins-requires-clause-formulas : goal.accumulate_area_into_bins-requires-clause-formulas
accumulate_area_into_bins-requires-clause-formulas g c =
    let a = c.requires.accumulator in
    has_formulas (pipeline_in c.args.tile.now.job.now) a.stage c.args.accumulator.now
    (c.args.tile.now.job.now.well.stages c.args.step.now.stage a.stage a.there) a.body

pub accumulate_area_into_bins-requires-clause-reads : goal.accumulate_area_into_bins-requires-clause-reads
accumulate_area_into_bins-requires-clause-reads g c = λ r k inside.
    let t = c.args.tile.now in
    let job = pipeline_in t.job.now in
    let l = t.layout.now in
    let given = g.K.TileSource.given t.known.now in
    let step = c.args.step.now in
    let a = c.requires.accumulator in
    let some = c.requires.layout in
    let own = own_layout job some.inlining given l some.stage some.row some.col some.layout in
    let prepared = step_prepared job l given c.in_ok-boxes.boxes some.stage some.row some.col own (step_view step) c.requires.last
    c.in_ok-boxes.ensures.prepared in
    subst (λ (b : Body). BodyReads (IsInputAt job l given c.in_ok-boxes.boxes) b r k) a.body
    (prepared_reads job l given c.in_ok-boxes.boxes step.stage a.stage a.there step.area prepared r k inside)

pub returns-clause-ok : goal.returns-clause-ok
returns-clause-ok g c =
    let t = c.args.tile.now in
    let job = pipeline_in t.job.now in
    let inlining = t.layout.now.inlining in
    let given = g.K.TileSource.given t.known.now in
    let step = c.args.step.now in
    let a = c.requires.accumulator in
    c.accumulate_area_into_bins.ensures
    ∙ ap (joined_bins c.args.accumulator.now.fold c.args.bins.now)
    (ap (body_totals (input_at job inlining given) step.area) (sym a.body)
    ∙ sym (local_totals_is job inlining given step.area step.stage a.stage a.there))
