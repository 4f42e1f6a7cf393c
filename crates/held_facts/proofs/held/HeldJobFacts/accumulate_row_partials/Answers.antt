use Rattle.std.proofs.Common.{ap, subst, sym, ◌∙◌}
use Rattle.job.specs.Kept.{pipeline_in, program_id_in}
use Rattle.held_facts.specs.HeldAnswers.{IsReady, partials_of}
use Rattle.held_facts.specs.inside.Gathering.{CameIn}
use Rattle.held_facts.specs.inside.Judging.{tile_key}
use Rattle.held_facts.proofs.HeldPartials.{more_came, none_came, one_came}
use Rattle.held_facts.proofs.held.HeldJobFacts.accumulate_row_partials.Goals as goal
use Rattle.held_facts.proofs.held.HeldJobFacts.accumulate_row_partials.Goals.{in-Some, in_default}

pub find_partial_bins-requires : goal.find_partial_bins-requires
find_partial_bins-requires g c =
    subst (IsReady c.args.self.now.state.now (pipeline_in c.args.self.now.job.now)) (sym c.build_held_tile_key.ensures)
    (c.requires.ready c.loop-col.col c.loop-col-test.true)

pub loop-col-preserved : goal.loop-col-preserved
loop-col-preserved g c =
    let s = c.args.self.now.state.now in
    let program = program_id_in c.args.self.now.job.now in
    let job = pipeline_in c.args.self.now.job.now in
    let key = tile_key program job c.args.stage c.args.row c.loop-col.col in
    let came : CameIn job c.args.stage (partials_of s key) c.loop-col.gathering c.match-find_partial_bins.gathering =
    elim c.match-find_partial_bins.branch [
      | in-Some w ↦
          one_came job c.args.stage (partials_of s key) w.in-Some.bins.now c.loop-col.gathering w.join_partial.new.self c.match-find_partial_bins.gathering
          (sym (ap (partials_of s) c.build_held_tile_key.ensures) ∙ w.in-Some.ensures.some) w.gathering-is w.join_partial.ensures.span
          (w.join_partial.ensures.taken job c.args.stage)
      | in_default w ↦
          none_came job c.args.stage (partials_of s key) c.loop-col.gathering c.match-find_partial_bins.gathering
          (sym (ap (partials_of s) c.build_held_tile_key.ensures) ∙ w.in_default.ensures.none) w.gathering-is
    ] in
    more_came job c.args.stage (λ j. partials_of s (tile_key program job c.args.stage c.args.row j)) c.loop-col.col c.args.gathering.now
    c.loop-col.gathering c.match-find_partial_bins.gathering c.loop-col.invariant came
