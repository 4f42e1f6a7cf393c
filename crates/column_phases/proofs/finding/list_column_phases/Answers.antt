use Rattle.std.proofs.Common.{arith, ℕ, ◌≡◌, ◌+◌, List, [], ◌∷◌, Some, length, map, slice_get, length-append, ap, sym, subst, ◌∙◌}
use Rattle.std.specs.Option.{option_map}
use Rattle.job.specs.Views.{case_view, formula_view}
use Rattle.job.specs.declared.stage.Function.{Function}
use Rattle.column_phases.specs.Phases.{IsPhaseOf}
use Rattle.column_phases.proofs.ListLaws.{get_grown}
use Rattle.column_phases.proofs.finding.list_column_phases.Goals as goal

pub loop-rest-preserved : goal.loop-rest-preserved
loop-rest-preserved c =
    let f = c.args.function.now in
    let qs = map case_view f.cases.items in
    let o = option_map formula_view f.otherwise in
    let xs = c.loop-rest.functions.items in
    let x = c.in_ok-make_column_phase_function.field-0 in
    let count = c.loop-rest.invariant.count in
    let items = c.in_ok-push.ensures.items in
    let last : IsPhaseOf c.args.period (length xs) x qs o =
    subst (λ (n : ℕ). IsPhaseOf c.args.period n x qs o) (sym count) c.in_ok-make_column_phase_function.ensures in
    record {
      count = ap length items ∙ length-append xs (x ∷ []) ∙ ap (λ (n : ℕ). n + 1) count;
      phases = λ p h e.
          get_grown (λ q y. IsPhaseOf c.args.period q y qs o) xs x c.loop-rest.invariant.phases last p h
          (subst (λ (ys : List Function). slice_get ys p ≡ Some h) items e);
    }

pub returns : goal.returns
returns c = λ p h e.
    let f = c.args.function.now in
    let count = c.loop-rest.invariant.count in
    let most = c.loop-rest-test.false in
    let least = c.loop-rest.auto.rest-end in
    let same : c.args.period ≡ length c.loop-rest.functions.items = omega (arith, count, most, least) in
    subst (λ (n : ℕ). IsPhaseOf n p h (map case_view f.cases.items) (option_map formula_view f.otherwise)) same
    (c.loop-rest.invariant.phases p h e)
