-- What is left of a plan, step by step.
use Rattle.std.proofs.Common.{◌≡◌, ℕ, suc, ◌+◌, ◌<◌, List, ◌∷◌, length, drop, get_or, refl, sym, ap, subst, ◌∙◌, arith, drop-cons, inl, inr}
use Rattle.std.specs.Prelude.{Some, slice_get}
use Rattle.std.proofs.lemmas.List.{drop_all}
use Rattle.std.proofs.lemmas.Option.{get_or_from_slice_get, slice_get_cases}
use Rattle.job.specs.Pipeline.{Pipeline}
use Rattle.row_plans.specs.Plans.{IsRunnable}
use Rattle.row_plans.specs.declared.plan.PlanStep.{PlanStep}
use Rattle.row_plans.specs.declared.plan.PlanStep.TheVariants.{Output}
use Rattle.row_plans.specs.declared.row_state.RowState.{RowState}

module _ (job : Pipeline) (outputs : List ℕ) (end y : ℕ) (states : List RowState) where
  -- while rows are to be given a step is left
  pub step_left : (steps : List PlanStep) (at : ℕ) → IsRunnable job outputs end y states (drop at steps) → y < end → at < length steps
  step_left steps at run lt =
      elim (slice_get_cases steps at).1 [
        | inl found ↦ found.1
        | inr past ↦ let done : y ≡ end = subst (IsRunnable job outputs end y states) (drop_all at steps past.0) run in absurd (omega arith)
      ]

  -- a step and those behind it
  pub from_step : (steps : List PlanStep) (at : ℕ) (p q : PlanStep) → at < length steps → p ≡ get_or steps at p → p ≡ q
      → IsRunnable job outputs end y states (drop at steps) → IsRunnable job outputs end y states (q ∷ drop (at + 1) steps)
  from_step steps at p q lt there is run =
      let next : suc at ≡ at + 1 = omega arith in
      subst (IsRunnable job outputs end y states)
      (drop-cons steps at p lt ∙ ap (λ (r : PlanStep). r ∷ drop (suc at) steps) (sym there ∙ is)
      ∙ ap (λ (n : ℕ). q ∷ drop n steps) next) run

  -- a row is given next
  pub from_output : (steps : List PlanStep) (at : ℕ) → y < end → slice_get steps at ≡ Some Output
      → IsRunnable job outputs end y states (drop at steps) → IsRunnable job outputs end y states (Output ∷ drop (at + 1) steps)
  from_output steps at lt there run =
      from_step steps at Output Output (step_left steps at run lt) (sym (get_or_from_slice_get steps at Output Output there)) refl run
