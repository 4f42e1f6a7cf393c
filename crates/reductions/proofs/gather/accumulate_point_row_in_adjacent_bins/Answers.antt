use Rattle.std.proofs.Common.{arith, ℕ, ℤ, ◌≡◌, ◌+ℤ◌, pos, length, List, ap, sym, ◌∙◌}
use Rattle.std.specs.Prelude.{map}
use Rattle.std.proofs.lemmas.List.{length-map}
use Rattle.domains.specs.Span.{numbers_from}
use Rattle.job.specs.declared.formula.Formula.{Formula as KeptFormula}
use Rattle.job.specs.Values.{Valuation, formula_value}
use Rattle.job.specs.Views.{formula_view}
use Rattle.tile_eval.specs.Rows.{at}
use Rattle.reductions.specs.inside.Gathering.{after_values, values_along, values_of_bin}
use Rattle.reductions.proofs.TakeValues.{row_is, bytes_is}
use Rattle.reductions.proofs.gather.accumulate_point_row_in_adjacent_bins.Goals as goal

pub returns-in-Some : goal.returns-in-Some
returns-in-Some g c = λ lo j h.
    let env : Valuation = g.S.RowSource.samples c.args.row.now.source.now in
    let a = c.args.accumulator.now in
    let r : ℤ = c.args.row.now.points.row in
    let x : ℤ = c.args.row.now.points.col in
    let n : ℕ = length c.args.values.now in
    let bytes = c.in-Some.bytes.now in
    let long : length bytes ≡ n = c.in-Some.ensures.0 ∙ sym c.requires.fits in
    let vs : List ℤ = map pos bytes in
    let count : length vs ≡ n = length-map bytes pos ∙ long in
    let values : vs ≡ values_along env (formula_view a.value) r x n =
    bytes_is (formula_value env (formula_view a.value) r) x n bytes long (λ k l. c.in-Some.ensures.1 k (omega (arith, l, c.requires.fits))
    ∙ ap (λ (f : KeptFormula). formula_value env (formula_view f) r (x +ℤ pos k)) c.value-value.ensures) in
    c.accumulate_values_in_adjacent_bins.ensures lo j h
    ∙ (λ i. after_values (c.fold-op.ensures i) (at c.args.bins.now j)
    (values_of_bin (values i) (numbers_from (lo +ℤ pos c.args.place) (count i)) (lo +ℤ pos j)))

pub returns-in-None : goal.returns-in-None
returns-in-None g c = λ lo j h.
    let env : Valuation = g.S.RowSource.samples c.args.row.now.source.now in
    let a = c.args.accumulator.now in
    let r : ℤ = c.args.row.now.points.row in
    let x : ℤ = c.args.row.now.points.col in
    let n : ℕ = length c.args.values.now in
    let line = c.borrow_or_evaluate_row-line in
    let vs : List ℤ = line.result.now in
    let values : vs ≡ values_along env (formula_view a.value) r x n =
    row_is (formula_value env (formula_view a.value) r) x n vs line.ensures.count (λ k l. line.ensures.values k l
    ∙ ap (λ (f : KeptFormula). formula_value env (formula_view f) r (x +ℤ pos k)) c.value-value.ensures) in
    c.accumulate_values_in_adjacent_bins-in-None.ensures lo j h
    ∙ (λ i. after_values (c.fold-op.ensures i) (at c.args.bins.now j)
    (values_of_bin (values i) (numbers_from (lo +ℤ pos c.args.place) (line.ensures.count i)) (lo +ℤ pos j)))
