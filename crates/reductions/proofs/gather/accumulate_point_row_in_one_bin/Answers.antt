use Rattle.std.proofs.Common.{rules, arith, ℕ, ℤ, ◌≡◌, ◌+ℤ◌, pos, length, replicate, List, ap, sym, ◌∙◌, w32, to_z, of_z, FitsSigned}
use Rattle.std.specs.Prelude.{map}
use Rattle.std.proofs.lemmas.Int.{to_z-of_z}
use Rattle.std.proofs.lemmas.List.{length-map}
use Rattle.job.specs.declared.formula.Formula.{Formula as KeptFormula}
use Rattle.job.specs.Values.{Valuation, formula_value}
use Rattle.job.specs.Views.{formula_view}
use Rattle.tile_eval.specs.Rows.{at}
use Rattle.reductions.specs.inside.Gathering.{after_values, values_along, values_of_bin}
use Rattle.reductions.proofs.TakeValues.{row_is, bytes_is}
use Rattle.reductions.proofs.gather.accumulate_point_row_in_one_bin.Goals as goal

pub returns-in-Some : goal.returns-in-Some
returns-in-Some g c = λ j h.
    let env : Valuation = g.S.RowSource.samples c.args.row.now.source.now in
    let a = c.args.accumulator.now in
    let r : ℤ = c.args.row.now.points.row in
    let x : ℤ = c.args.row.now.points.col in
    let n : ℕ = length c.args.values.now in
    let bytes = c.in-Some.bytes.now in
    let long : length bytes ≡ n = c.in-Some.ensures.0 ∙ sym c.requires.fits in
    let vs : List ℤ = map pos bytes in
    let count : length vs ≡ n = length-map bytes pos ∙ long in
    let values : vs ≡ values_along env (formula_view a.value) r x n =
    bytes_is (formula_value env (formula_view a.value) r) x n bytes long (λ k l. c.in-Some.ensures.1 k (omega (arith, l, c.requires.fits))
    ∙ ap (λ (f : KeptFormula). formula_value env (formula_view f) r (x +ℤ pos k)) c.value-value.ensures) in
    let lo_fits : FitsSigned w32 c.lo-lo.result = search rules in
    let lo : to_z w32 (of_z w32 c.lo-lo.result) ≡ a.bins.lo = to_z-of_z w32 c.lo-lo.result lo_fits ∙ c.lo-lo.ensures.end
    ∙ (λ i. (c.bins.ensures i).lo) in
    let bin_fits : FitsSigned w32 c.args.bin = search rules in
    c.accumulate_values_in_one_bin.ensures j h
    ∙ (λ i. after_values (c.fold-op.ensures i) (at c.args.bins.now j)
    (values_of_bin (values i) (replicate (count i) (to_z-of_z w32 c.args.bin bin_fits i)) (lo i +ℤ pos j)))

pub returns-in-None : goal.returns-in-None
returns-in-None g c = λ j h.
    let env : Valuation = g.S.RowSource.samples c.args.row.now.source.now in
    let a = c.args.accumulator.now in
    let r : ℤ = c.args.row.now.points.row in
    let x : ℤ = c.args.row.now.points.col in
    let n : ℕ = length c.args.values.now in
    let line = c.borrow_or_evaluate_row-line in
    let vs : List ℤ = line.result.now in
    let values : vs ≡ values_along env (formula_view a.value) r x n =
    row_is (formula_value env (formula_view a.value) r) x n vs line.ensures.count (λ k l. line.ensures.values k l
    ∙ ap (λ (f : KeptFormula). formula_value env (formula_view f) r (x +ℤ pos k)) c.value-value.ensures) in
    let lo_fits : FitsSigned w32 c.lo-lo.result = search rules in
    let lo : to_z w32 (of_z w32 c.lo-lo.result) ≡ a.bins.lo = to_z-of_z w32 c.lo-lo.result lo_fits ∙ c.lo-lo.ensures.end
    ∙ (λ i. (c.bins.ensures i).lo) in
    let bin_fits : FitsSigned w32 c.args.bin = search rules in
    c.accumulate_values_in_one_bin-in-None.ensures j h
    ∙ (λ i. after_values (c.fold-op.ensures i) (at c.args.bins.now j)
    (values_of_bin (values i) (replicate (line.ensures.count i) (to_z-of_z w32 c.args.bin bin_fits i)) (lo i +ℤ pos j)))
