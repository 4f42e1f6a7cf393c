use Rattle.std.proofs.Common.{ℕ, arith, below_more, subst, sym, ◌∙◌}
use Rattle.std.proofs.lemmas.Result.{err_from_is_err_and}
use Rattle.job.specs.Kept.{pipeline_in, program_id_in}
use Rattle.held_facts.specs.inside.Judging.{RowIsReady, RowHasFault}
use Rattle.held_facts.proofs.Judged.{stage_ready, none_ready}
use Rattle.held_facts.proofs.held.HeldJobFacts.check_facts_of_stage_tiles.Goals as goal
use Rattle.held_facts.proofs.held.HeldJobFacts.check_facts_of_stage_tiles.Goals.{in-Some+else-loop-row-test, in_default}

pub returns-in_err-check_facts_of_row_tiles-clause-fault : goal.returns-in_err-check_facts_of_row_tiles-clause-fault
returns-in_err-check_facts_of_row_tiles-clause-fault g c =
    let s = c.args.self.now.state.now in
    let program = program_id_in c.args.self.now.job.now in
    let job = pipeline_in c.args.self.now.job.now in
    let p = err_from_is_err_and c.from_residual.result c.from_residual.ensures.1 in
    rw (p.1, p.2) (record {
      grid = c.in-Some.grid;
      there = sym c.in-Some.ensures;
      first = record {
        at = c.loop-row.row;
        within = omega (arith, c.tile_rows-row-end.ensures.number);
        bad = subst (λ (n : ℕ). RowHasFault s program job c.args.stage n c.in_err-check_facts_of_row_tiles.field-0.0 c.loop-row.row)
            c.tile_cols.ensures.number c.in_err-check_facts_of_row_tiles.ensures.fault;
        before = c.loop-row.invariant;
      };
    })

pub loop-row-preserved : goal.loop-row-preserved
loop-row-preserved g c =
    let s = c.args.self.now.state.now in
    let program = program_id_in c.args.self.now.job.now in
    let job = pipeline_in c.args.self.now.job.now in
    below_more _ _ c.loop-row.invariant
    (subst (λ (n : ℕ). RowIsReady s program job c.args.stage n c.loop-row.row) c.tile_cols.ensures.number
    c.in_ok-check_facts_of_row_tiles.ensures.ready)

pub returns-clause-ready : goal.returns-clause-ready
returns-clause-ready g c =
    let s = c.args.self.now.state.now in
    let program = program_id_in c.args.self.now.job.now in
    let job = pipeline_in c.args.self.now.job.now in
    elim c.match-grid.branch [
      | in-Some+else-loop-row-test w ↦
          stage_ready s program job c.args.stage w.loop-row.row w.in-Some.grid (sym w.in-Some.ensures)
          (omega (arith, w.tile_rows-row-end.ensures.number, w.loop-row-test.false)) w.loop-row.invariant
      | in_default w ↦ none_ready s program job c.args.stage (sym c.grid.ensures ∙ w.in_default.is)
    ]
