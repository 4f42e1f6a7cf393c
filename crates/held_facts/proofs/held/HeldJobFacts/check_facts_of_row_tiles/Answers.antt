use Rattle.std.proofs.Common.{below_more, subst}
use Rattle.std.proofs.lemmas.Result.{err_from_is_err_and}
use Rattle.identity.specs.declared.key.Key.{Key}
use Rattle.job.specs.Kept.{pipeline_in}
use Rattle.held_facts.specs.HeldAnswers.{IsReady}
use Rattle.held_facts.specs.inside.Judging.{IsFaultAt}
use Rattle.held_facts.proofs.held.HeldJobFacts.check_facts_of_row_tiles.Goals as goal

pub returns-in_err-check_fact_of_tile-clause-fault : goal.returns-in_err-check_fact_of_tile-clause-fault
returns-in_err-check_fact_of_tile-clause-fault g c =
    let s = c.args.self.now.state.now in
    let job = pipeline_in c.args.self.now.job.now in
    let p = err_from_is_err_and c.from_residual.result c.from_residual.ensures.1 in
    rw (p.1, p.2) (record {
      at = c.loop-col.col;
      within = c.loop-col-test.true;
      bad = subst (λ (k : Key). IsFaultAt s job k c.in_err-check_fact_of_tile.field-0.0) c.build_held_tile_key.ensures c.in_err-check_fact_of_tile.ensures.fault;
      before = c.loop-col.invariant;
    })

pub loop-col-preserved : goal.loop-col-preserved
loop-col-preserved g c =
    below_more _ _ c.loop-col.invariant
    (subst (IsReady c.args.self.now.state.now (pipeline_in c.args.self.now.job.now)) c.build_held_tile_key.ensures c.in_ok-check_fact_of_tile.ensures.ready)
