use Rattle.std.proofs.Common.{◌<◌, ◌+◌, List, drop, sym, ap, subst, ◌∙◌, arith}
use Rattle.std.proofs.lemmas.List.Elements.{All-weaker}
use Rattle.std.proofs.lemmas.Option.{slice_get-get_or}
use Rattle.std.specs.Prelude.{Some}
use Rattle.job.specs.Kept.{pipeline_in}
use Rattle.row_plans.specs.Plans.{IsRunnable}
use Rattle.row_plans.specs.declared.plan.PlanStep.TheVariants.{Make}
use Rattle.row_plans.specs.declared.row_state.RowState.{RowState}
use Rattle.row_rings.specs.Rings.{states_in, IsOutputForm}
use Rattle.row_streams.proofs.Forms.{output_form_stays}
use Rattle.row_streams.proofs.Steps.{from_step, step_left}
use Rattle.row_streams.proofs.row_steps.RowStreamSteps.make_rows_before_next_streamed_row.Goals as goal

pub invariant_of-self : goal.invariant_of-self
invariant_of-self c =
    let self = c.loop-stage.self in
    let job = pipeline_in self.job.now in
    let outputs = self.outputs.now in
    let lt : self.row < self.end = omega arith in
    let left = step_left job outputs self.end self.row (states_in self.rings) self.steps.items self.at self.runnable lt in
    let run =
    from_step job outputs self.end self.row (states_in self.rings) self.steps.items self.at c.index.result.now (Make c.in-Make.stage) left
    c.index.ensures c.in-Make.is self.runnable in record {
      own = ap (λ kept. kept.now) c.make_next_ring_row.ensures.job ∙ self.own;
      formed_rings =
          All-weaker (IsOutputForm self.rings) (IsOutputForm c.make_next_ring_row.new.self)
          (output_form_stays self.rings c.make_next_ring_row.new.self c.make_next_ring_row.ensures.wide
          c.make_next_ring_row.ensures.narrow c.make_next_ring_row.ensures.outputs) outputs self.formed_rings;
      runnable =
          subst (λ (states : List RowState). IsRunnable job outputs self.end self.row states (drop (self.at + 1) self.steps.items))
          (sym c.make_next_ring_row.ensures.states) run.1;
    }

pub returns-clause-next : goal.returns-clause-next
returns-clause-next c =
    let self = c.loop-stage.self in
    let lt : self.row < self.end = omega arith in
    let left =
    step_left (pipeline_in self.job.now) self.outputs.now self.end self.row (states_in self.rings) self.steps.items self.at
    self.runnable lt in
    slice_get-get_or self.steps.items self.at c.index.result.now left ∙ ap Some (sym c.index.ensures ∙ c.in_default.is)
