use Rattle.std.proofs.Common.{sym, ap, ◌∙◌}
use Rattle.job.specs.Views.{body_view, stage_view}
use Rattle.partials.proofs.partials.compute_last_step_partial_if_any.Goals as goal

pub compute_last_step_partial_of_accumulator-requires-clause-accumulator : goal.compute_last_step_partial_of_accumulator-requires-clause-accumulator
compute_last_step_partial_of_accumulator-requires-clause-accumulator g c = record {
  stage = stage_view c.in-Some.found.now;
  there = sym c.in-Some.ensures;
  body = ap body_view (sym c.body.ensures ∙ c.in-Accumulator.is);
}
