use Rattle.std.proofs.Common.{rules, ◌≡◌, ◌-◌, ◌+◌, length, sym, ap, ◌∙◌, subst}
use Rattle.std.proofs.lemmas.List.{length-map}
use Rattle.job.specs.Kept.{pipeline_in}
use Rattle.overlap_tiles.specs.Views.{step_view}
use Rattle.scratch.specs.Lending.{numbers_of}
use Rattle.one_tile.specs.inside.Steps.{AreComputed, HasStepsRoom}
use Rattle.one_tile.proofs.tile_job.TileJob.compute_inlined_steps.Goals as goal

pub compute_step-requires-clause-room : goal.compute_step-requires-clause-room
compute_step-requires-clause-room g c =
    subst (HasStepsRoom (pipeline_in c.args.self.now.job.now) c.args.self.now.layout.now.steps) (sym c.loop-place.auto.temps) c.requires.room

pub loop-place-preserved : goal.loop-place-preserved
loop-place-preserved g c =
    let one : c.loop-place.place - 1 + 1 ≡ c.loop-place.place + 1 - 1 = search rules in
    record {
      size = c.compute_step.ensures.size ∙ c.loop-place.invariant.size;
      computed = subst (AreComputed (pipeline_in c.args.self.now.job.now) c.args.self.now.layout.now
          (g.K.TileSource.given c.args.self.now.known.now) (numbers_of c.compute_step.new.scratch)) one c.compute_step.ensures.computed;
    }

pub returns-clause-computed : goal.returns-clause-computed
returns-clause-computed g c = λ last is.
    let long : length c.steps-place-end.result.now ≡ length c.args.self.now.layout.now.steps =
    sym (length-map c.steps-place-end.result.now step_view) ∙ ap length c.steps-place-end.ensures in
    let end : c.loop-place.place - 1 ≡ last = search (rules, long, is) in
    subst (AreComputed (pipeline_in c.args.self.now.job.now) c.args.self.now.layout.now
    (g.K.TileSource.given c.args.self.now.known.now) (numbers_of c.loop-place.scratch)) end c.loop-place.invariant.computed
