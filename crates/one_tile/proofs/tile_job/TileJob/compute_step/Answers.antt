use Rattle.std.proofs.Common.{arith, length, sym, ◌∙◌}
use Rattle.std.proofs.lemmas.Bool.{false≢true}
use Rattle.domains.proofs.Places.{all_at}
use Rattle.job.specs.Kept.{pipeline_in}
use Rattle.scratch.specs.Lending.{numbers_of}
use Rattle.one_tile.specs.inside.Steps.{HasStepRoom}
use Rattle.one_tile.proofs.RunsStep.{here, in_ranges, mine_within, mine_len, step_area, step_function, step_prepared, step_done}
use Rattle.one_tile.proofs.tile_job.TileJob.compute_step.Goals as goal

pub bounds-ranges-place : goal.bounds-ranges-place
bounds-ranges-place g c =
    let job = pipeline_in c.args.self.now.job.now in
    let l = c.args.self.now.layout.now in
    let given = g.K.TileSource.given c.args.self.now.known.now in
    let some = c.requires.layout in
    let ss = c.steps.result.now in
    let rs = c.ranges-2.result.now in
    let step = c.index-steps-place.result in
    in_ranges job l given some ss c.steps.ensures rs c.ranges-2.ensures c.args.place c.requires.there step c.index-steps-place.is

pub write_box_values_into_scratch-requires-clause-area : goal.write_box_values_into_scratch-requires-clause-area
write_box_values_into_scratch-requires-clause-area g c =
    let job = pipeline_in c.args.self.now.job.now in
    let l = c.args.self.now.layout.now in
    let given = g.K.TileSource.given c.args.self.now.known.now in
    let some = c.requires.layout in
    let ss = c.steps.result.now in
    let rs = c.ranges-2.result.now in
    let step = c.index-steps-place.result in
    step_area job l given some ss c.steps.ensures rs c.ranges-2.ensures c.args.place c.requires.there step c.index-steps-place.is c.args.self.now.job.now.well c.requires.needs

pub write_box_values_into_scratch-requires-clause-inside : goal.write_box_values_into_scratch-requires-clause-inside
write_box_values_into_scratch-requires-clause-inside g c =
    let job = pipeline_in c.args.self.now.job.now in
    let l = c.args.self.now.layout.now in
    let given = g.K.TileSource.given c.args.self.now.known.now in
    let some = c.requires.layout in
    let ss = c.steps.result.now in
    let rs = c.ranges-2.result.now in
    let step = c.index-steps-place.result in
    let len = mine_len job l given some ss c.steps.ensures rs c.ranges-2.ensures c.args.place c.requires.there step c.index-steps-place.is in
    let within = mine_within job l given some ss c.steps.ensures rs c.ranges-2.ensures c.args.place c.requires.there step c.index-steps-place.is in
    omega (arith, len, within, c.requires.size)

pub write_box_values_into_scratch-requires-clause-prepared : goal.write_box_values_into_scratch-requires-clause-prepared
write_box_values_into_scratch-requires-clause-prepared g c =
    let job = pipeline_in c.args.self.now.job.now in
    let l = c.args.self.now.layout.now in
    let given = g.K.TileSource.given c.args.self.now.known.now in
    let some = c.requires.layout in
    let ss = c.steps.result.now in
    let rs = c.ranges-2.result.now in
    let step = c.index-steps-place.result in
    step_prepared job l given some ss c.steps.ensures rs c.ranges-2.ensures c.args.place c.requires.there step c.index-steps-place.is c.args.self.now.job.now.well c.requires.needs
    (numbers_of c.args.scratch.now) c.requires.size c.requires.before

pub write_box_values_into_scratch-requires-clause-room : goal.write_box_values_into_scratch-requires-clause-room
write_box_values_into_scratch-requires-clause-room g c =
    let job = pipeline_in c.args.self.now.job.now in
    let l = c.args.self.now.layout.now in
    let given = g.K.TileSource.given c.args.self.now.known.now in
    let some = c.requires.layout in
    let ss = c.steps.result.now in
    let rs = c.ranges-2.result.now in
    let step = c.index-steps-place.result in
    all_at (λ s. HasStepRoom job s (length c.args.temps.now)) l.steps c.args.place (step.stage, step.area) c.requires.room
    (here job l given some ss c.steps.ensures rs c.ranges-2.ensures c.args.place c.requires.there step c.index-steps-place.is).1 _ _ c.in-Some.ensures.some

pub returns-in-Some-clause-size : goal.returns-in-Some-clause-size
returns-in-Some-clause-size g c =
    let job = pipeline_in c.args.self.now.job.now in
    let l = c.args.self.now.layout.now in
    let given = g.K.TileSource.given c.args.self.now.known.now in
    let some = c.requires.layout in
    let ss = c.steps.result.now in
    let rs = c.ranges-2.result.now in
    let step = c.index-steps-place.result in
    (step_done job l given some ss c.steps.ensures rs c.ranges-2.ensures c.args.place c.requires.there step c.index-steps-place.is c.args.self.now.job.now.well c.requires.needs
    (numbers_of c.args.scratch.now) c.requires.size c.requires.before _ c.write_box_values_into_scratch.ensures).0

pub returns-in-Some-clause-computed : goal.returns-in-Some-clause-computed
returns-in-Some-clause-computed g c =
    let job = pipeline_in c.args.self.now.job.now in
    let l = c.args.self.now.layout.now in
    let given = g.K.TileSource.given c.args.self.now.known.now in
    let some = c.requires.layout in
    let ss = c.steps.result.now in
    let rs = c.ranges-2.result.now in
    let step = c.index-steps-place.result in
    (step_done job l given some ss c.steps.ensures rs c.ranges-2.ensures c.args.place c.requires.there step c.index-steps-place.is c.args.self.now.job.now.well c.requires.needs
    (numbers_of c.args.scratch.now) c.requires.size c.requires.before _ c.write_box_values_into_scratch.ensures).1

pub returns-in_default-clause-computed : goal.returns-in_default-clause-computed
returns-in_default-clause-computed g c =
    let job = pipeline_in c.args.self.now.job.now in
    let l = c.args.self.now.layout.now in
    let given = g.K.TileSource.given c.args.self.now.known.now in
    let some = c.requires.layout in
    let ss = c.steps.result.now in
    let rs = c.ranges-2.result.now in
    let step = c.index-steps-place.result in
    absurd (false≢true (sym c.in_default.ensures.none
    ∙ step_function job l given some ss c.steps.ensures rs c.ranges-2.ensures c.args.place c.requires.there step c.index-steps-place.is c.args.self.now.job.now.well c.requires.needs))
