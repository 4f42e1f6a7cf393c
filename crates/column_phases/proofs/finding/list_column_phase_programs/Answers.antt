use Rattle.std.proofs.Common.{arith, ℕ, ◌≡◌, ◌≤◌, ◌<◌, ◌+◌, List, [], ◌∷◌, Some, length, map, slice_get, length-append, ap, sym, subst, ◌∙◌}
use Rattle.std.specs.Option.{option_map}
use Rattle.job.specs.Views.{case_view, formula_view}
use Rattle.job.specs.declared.stage.Function.{Function}
use Rattle.narrow_eval.specs.NarrowPrograms.{IsProgramOf}
use Rattle.narrow_eval.specs.declared.narrow_case.NarrowFunction.{NarrowFunction}
use Rattle.column_phases.proofs.ListLaws.{get_grown, same_item}
use Rattle.column_phases.proofs.finding.list_column_phase_programs.Goals as goal

pub loop-function-preserved : goal.loop-function-preserved
loop-function-preserved c =
    let fs = c.args.functions.now in
    let qs = c.loop-function.made.items in
    let q = c.in_ok-choose_narrow_function.field-0 in
    let count = c.loop-function.invariant.count in
    let items = c.in_ok-push.ensures.items in
    let less = c.loop-function-test.true in
    let last : (f : Function) → slice_get fs (length qs) ≡ Some f → IsProgramOf q (map case_view f.cases.items) (option_map formula_view f.otherwise) =
    λ f e.
    subst (λ (g : Function). IsProgramOf q (map case_view g.cases.items) (option_map formula_view g.otherwise))
    (same_item fs c.loop-function.function-index c.function-item.result f c.function-item.is (subst (λ (n : ℕ). slice_get fs n ≡ Some f) count e))
    c.in_ok-choose_narrow_function.ensures in
    record {
      few = omega (arith, less);
      count = ap length items ∙ length-append qs (q ∷ []) ∙ ap (λ (n : ℕ). n + 1) count;
      programs = λ p y e.
          get_grown (λ n x. (f : Function) → slice_get fs n ≡ Some f → IsProgramOf x (map case_view f.cases.items) (option_map formula_view f.otherwise))
          qs q c.loop-function.invariant.programs last p y (subst (λ (ys : List NarrowFunction). slice_get ys p ≡ Some y) items e);
    }

pub returns-clause-count : goal.returns-clause-count
returns-clause-count c =
    let count = c.loop-function.invariant.count in
    let few = c.loop-function.invariant.few in
    let most = c.loop-function-test.false in
    omega (arith, count, few, most)

pub returns-clause-programs : goal.returns-clause-programs
returns-clause-programs c = λ p f q there made. c.loop-function.invariant.programs p q made f there
