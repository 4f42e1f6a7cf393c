use Rattle.std.proofs.Common.{rules, ℕ, ◌≡◌, ◌≤◌, length, subst, List}
use Rattle.job.specs.Kept.{pipeline_in}
use Rattle.scratch.specs.Lending.{numbers_of}
use Rattle.one_tile.specs.inside.Steps.{HasStepsRoom}
use Rattle.one_tile.proofs.RunsStep.{all_prepared}
use Rattle.one_tile.proofs.tile_job.TileJob.compute_values_of_inlined_boxes.Goals as goal

pub compute_inlined_steps-requires-clause-room : goal.compute_inlined_steps-requires-clause-room
compute_inlined_steps-requires-clause-room g c =
    let job = pipeline_in c.args.self.now.job.now in
    let l = c.args.self.now.layout.now in
    let room : HasStepsRoom job l.steps c.in_ok-room.room =
    subst (λ (ss : List _). HasStepsRoom job ss c.in_ok-room.room) c.steps.ensures (search rules) in
    let long : (n : ℕ) → c.in_ok-room.room ≡ n → HasStepsRoom job l.steps n = λ n e. subst (HasStepsRoom job l.steps) e room in
    long _ (search rules)

pub returns-clause-prepared : goal.returns-clause-prepared
returns-clause-prepared g c = λ k i j is.
    let job = pipeline_in c.args.self.now.job.now in
    let l = c.args.self.now.layout.now in
    let given = g.K.TileSource.given c.args.self.now.known.now in
    let memory = numbers_of c.compute_inlined_steps.new.scratch in
    let size : l.scratch ≤ length memory = search rules in
    let before : c.from_numbers.result.before.now ≡ memory = search rules in
    let end : c.from_numbers.result.end ≡ length memory = search rules in
    all_prepared job l given k i j is c.args.self.now.job.now.well c.requires.needs memory size c.from_numbers.result before c.from_numbers.ensures.behind end
    c.compute_inlined_steps.ensures.computed
