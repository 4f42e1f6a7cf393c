use Rattle.std.proofs.Common.{rules, arith, ℕ, ℤ, ◌≡◌, ◌+ℤ◌, pos, length, replicate, List, sym, ◌∙◌, w32, FitsSigned}
use Rattle.std.specs.Prelude.{map}
use Rattle.std.proofs.lemmas.Int.{to_z-of_z}
use Rattle.operators.specs.declared.operator.ReductionOp.TheVariants.{Sum}
use Rattle.job.specs.Values.{formula_value}
use Rattle.job.specs.Views.{formula_view}
use Rattle.tile_eval.specs.Rows.{at}
use Rattle.reductions.specs.inside.Gathering.{after_values, values_along, values_of_bin}
use Rattle.reductions.proofs.TakeValues.{row_is, bytes_is}
use Rattle.reductions.proofs.gather.add_number_to_bin_of_each_point_of_row.Goals as goal

pub returns-in-Some : goal.returns-in-Some
returns-in-Some g c = λ j h.
    let env = g.S.RowSource.samples c.args.row.now.source.now in
    let bin = formula_view c.args.bin.now in
    let r : ℤ = c.args.row.now.points.row in
    let x : ℤ = c.args.row.now.points.col in
    let n : ℕ = length c.args.bins_of.now in
    let bytes = c.in-Some.bytes.now in
    let count : length bytes ≡ n = c.in-Some.ensures.0 ∙ sym c.requires.fits in
    let bins : map pos bytes ≡ values_along env bin r x n = bytes_is (formula_value env bin r) x n bytes count (λ k l.
    c.in-Some.ensures.1 k (omega (arith, l, c.requires.fits))) in
    let number_fits : FitsSigned w32 c.args.number = search rules in
    let lo_fits : FitsSigned w32 c.args.lo = search rules in
    let first : pos 0 ≡ c.args.lo = sym (sym (to_z-of_z w32 c.args.lo lo_fits) ∙ c.is_each_byte_place_of_its_bin.ensures.first (search rules)) in
    c.add_number_to_bin_of_each_byte.ensures j h
    ∙ (λ i. after_values Sum (at c.args.bins.now j)
    (values_of_bin (replicate (count i) (to_z-of_z w32 c.args.number number_fits i)) (bins i) (first i +ℤ pos j)))

pub returns : goal.returns
returns g c = λ j h.
    let env = g.S.RowSource.samples c.args.row.now.source.now in
    let bin = formula_view c.args.bin.now in
    let r : ℤ = c.args.row.now.points.row in
    let x : ℤ = c.args.row.now.points.col in
    let n : ℕ = length c.args.bins_of.now in
    let cs : List ℤ = c.borrow_or_evaluate_row-each.result.now in
    let bins : cs ≡ values_along env bin r x n = row_is (formula_value env bin r) x n cs c.borrow_or_evaluate_row-each.ensures.count
    c.borrow_or_evaluate_row-each.ensures.values in
    let number_fits : FitsSigned w32 c.args.number = search rules in
    let lo_fits : FitsSigned w32 c.args.lo = search rules in
    c.add_number_to_bin_of_each_point.ensures j h
    ∙ (λ i. after_values Sum (at c.args.bins.now j)
    (values_of_bin (replicate (c.borrow_or_evaluate_row-each.ensures.count i) (to_z-of_z w32 c.args.number number_fits i)) (bins i)
    (to_z-of_z w32 c.args.lo lo_fits i +ℤ pos j)))
