use Rattle.std.proofs.Common.{ℕ, ◌≡◌, ◌+◌, length, sym, ap, ◌∙◌, subst, arith}
use Rattle.std.proofs.lemmas.List.{length-map}
use Rattle.job.specs.Kept.{pipeline_in}
use Rattle.job.specs.Views.{stage_view}
use Rattle.tile_run.specs.inside.Running.{AreStored}
use Rattle.tile_run.proofs.RunAllStores.{stored_none}
use Rattle.tile_run.proofs.ranks.RankedRun.store_tiles_up_to_rank.Goals as goal

pub loop-rank-init : goal.loop-rank-init
loop-rank-init g c =
    let run = c.args.self.now in
    stored_none (pipeline_in run.job.now) run.schedule.now.inlining c.in_ok-stored.stored.stages.items
    (c.in_ok-stored.ensures.length ∙ sym (length-map c.stages.result.now stage_view) ∙ ap length c.stages.ensures)
    c.in_ok-stored.ensures.none

pub store_tiles_of_rank-requires-2-clause-stored : goal.store_tiles_of_rank-requires-2-clause-stored
store_tiles_of_rank-requires-2-clause-stored g c κs within =
    let run = c.args.self.now in
    let same : c.loop-rank.rank ≡ c.args.last = omega arith in
    subst (λ (r : ℕ). AreStored (pipeline_in run.job.now) run.schedule.now.inlining r c.loop-rank.stored.stages.items) same
    c.loop-rank.invariant

pub returns : goal.returns
returns g c =
    let run = c.args.self.now in
    subst (λ (r : ℕ). AreStored (pipeline_in run.job.now) run.schedule.now.inlining (r + 1) c.store_tiles_of_rank-2.new.stored.stages.items)
    c.requires.last c.in_ok-store_tiles_of_rank-2.ensures
