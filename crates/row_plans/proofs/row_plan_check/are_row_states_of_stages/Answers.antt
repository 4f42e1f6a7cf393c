use Rattle.std.proofs.Common.{ℕ, ◌≡◌, arith, length, refl, sym, ◌∙◌, ap, Some, slice_get}
use borrow.Author.Count.{below_more}
use Rattle.std.proofs.lemmas.Option.{get_or_from_slice_get, slice_get_read, slice_get_within}
use Rattle.row_plans.specs.Checks.{HasStage}
use Rattle.row_plans.specs.declared.row_state.RowState.{RowState}
use Rattle.row_plans.proofs.row_plan_check.are_row_states_of_stages.Goals as goal

pub loop-stage-preserved : goal.loop-stage-preserved
loop-stage-preserved c =
    let P : ℕ → Type 0 = λ g. (state : RowState) → slice_get c.args.states.now g ≡ Some state → HasStage c.args.rows.now g state in
    let here : P c.loop-stage.stage = λ state own. record {
      read = c.index-rows-stage.result;
      there = slice_get_read c.args.rows.now (length c.args.rows.now) c.loop-stage.stage c.index-rows-stage.result refl c.loop-stage-test.true c.index-rows-stage.is;
      area = ap (λ (s : RowState). s.area) (sym (get_or_from_slice_get c.args.states.now c.loop-stage.stage state c.index-states-stage.result own) ∙ sym c.index-states-stage.is)
          ∙ c.has_area_of_row_state.ensures c.if-not-has_area_of_row_state.false;
    } in
    below_more P c.loop-stage.stage c.loop-stage.invariant here

pub returns : goal.returns
returns c = λ _. record {
  each = λ g state own.
      let within = slice_get_within c.args.states.now g state own in
      c.loop-stage.invariant g (omega arith) state own;
}
