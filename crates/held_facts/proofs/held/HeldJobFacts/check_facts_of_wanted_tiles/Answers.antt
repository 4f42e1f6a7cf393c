use Rattle.std.proofs.Common.{arith, ap, below_more, length, sym, ◌∙◌}
use Rattle.std.proofs.lemmas.Bool.{true≢false}
use Rattle.std.proofs.lemmas.List.{length-map}
use Rattle.std.proofs.lemmas.Result.{err_from_is_err_and}
use Rattle.job.specs.Kept.{pipeline_in, program_id_in}
use Rattle.job.specs.Views.{stage_view}
use Rattle.held_facts.proofs.Judged.{all_ready, first_fault}
use Rattle.held_facts.proofs.held.HeldJobFacts.check_facts_of_wanted_tiles.Goals as goal
use Rattle.held_facts.proofs.held.HeldJobFacts.check_facts_of_wanted_tiles.Goals.{then-is_result+in_ok-check_facts_of_stage_tiles, else-is_result}

pub returns-in_err-check_facts_of_stage_tiles-clause-fault : goal.returns-in_err-check_facts_of_stage_tiles-clause-fault
returns-in_err-check_facts_of_stage_tiles-clause-fault g c =
    let s = c.args.self.now.state.now in
    let program = program_id_in c.args.self.now.job.now in
    let job = pipeline_in c.args.self.now.job.now in
    let p = err_from_is_err_and c.from_residual.result c.from_residual.ensures.1 in
    rw (p.1, p.2) (first_fault s program job c.in_err-check_facts_of_stage_tiles.field-0.0 (record {
      at = c.loop-stage.stage;
      within =
          omega (
            arith,
            sym (length-map c.stages-stage-end.result.now stage_view) ∙ ap length c.stages-stage-end.ensures,
            c.loop-stage-test.true,
          );
      bad = record {
        wanted = sym c.is_result.ensures ∙ c.if-is_result.true;
        stage = c.in_err-check_facts_of_stage_tiles.ensures.fault;
      };
      before = c.loop-stage.invariant;
    }))

pub loop-stage-preserved : goal.loop-stage-preserved
loop-stage-preserved g c =
    below_more _ _ c.loop-stage.invariant
    (elim c.if-is_result.branch [
      | then-is_result+in_ok-check_facts_of_stage_tiles w ↦ λ wanted. w.in_ok-check_facts_of_stage_tiles.ensures.ready
      | else-is_result w ↦ λ wanted. absurd (true≢false (sym wanted ∙ sym c.is_result.ensures ∙ w.if-is_result.false))
    ])

pub returns-clause-ready : goal.returns-clause-ready
returns-clause-ready g c =
    all_ready c.args.self.now.state.now (program_id_in c.args.self.now.job.now) (pipeline_in c.args.self.now.job.now)
    (λ n low. c.loop-stage.invariant n
    (omega (
      arith,
      sym (length-map c.stages-stage-end.result.now stage_view) ∙ ap length c.stages-stage-end.ensures,
      c.loop-stage-test.false,
    )))
