use Rattle.std.proofs.Common.{rules, arith, ℕ, ℤ, ◌≡◌, ◌<◌, ◌+ℤ◌, pos, length, replicate, List, ap, sym, refl, ◌∙◌, subst, w32, to_z, of_z, FitsSigned}
use Rattle.std.specs.Prelude.{map}
use Rattle.std.proofs.lemmas.Int.{to_z-of_z}
use Rattle.domains.specs.Span.{numbers_from}
use Rattle.operators.specs.declared.operator.ReductionOp.TheVariants.{Sum}
use Rattle.job.specs.declared.formula.Formula.{Formula as KeptFormula}
use Rattle.job.specs.Reads.{EachRead}
use Rattle.job.specs.Values.{Valuation, formula_value}
use Rattle.job.specs.Views.{formula_view}
use Rattle.job.specs.WellFormed.{IsFormula}
use Rattle.tile_eval.specs.Reading.{ReadsWithin}
use Rattle.tile_eval.specs.Rows.{EachPlace, at}
use Rattle.tile_eval.proofs.Gathering.{reads_along}
use Rattle.reductions.specs.inside.Gathering.{after_values, values_along, values_of_bin}
use Rattle.reductions.proofs.TakeValues.{row_is, row_took, counted_is, same_is}
use Rattle.reductions.proofs.gather.accumulate_point_row_in_bins.Goals as goal

-- all that a formula reads along the row is there
found_reads : (has : ℕ → ℤ → ℤ → Type 0) (r x : ℤ) (n : ℕ) (own found : KeptFormula) → found ≡ own → 0 < n
    → IsFormula (formula_view own) → EachPlace n (λ k. EachRead has (formula_view own) r (x +ℤ pos k))
    → ReadsWithin has (formula_view found) r x n
found_reads has r x n own found is some formula reads =
    subst (λ (f : KeptFormula). ReadsWithin has (formula_view f) r x n) (sym is)
    (reads_along has r x n (formula_view own) some formula reads)

pub accumulate_point_row_in_adjacent_bins-requires-clause-reads : goal.accumulate_point_row_in_adjacent_bins-requires-clause-reads
accumulate_point_row_in_adjacent_bins-requires-clause-reads g c =
    reads_along (g.S.RowSource.has c.args.row.now.source.now) c.args.row.now.points.row c.args.row.now.points.col (length c.args.values.now)
    (formula_view c.args.accumulator.now.value) c.requires.some c.requires.formulas.value (λ k l. (c.requires.reads k l).0)

pub accumulate_point_row_in_one_bin-requires-clause-reads : goal.accumulate_point_row_in_one_bin-requires-clause-reads
accumulate_point_row_in_one_bin-requires-clause-reads g c =
    reads_along (g.S.RowSource.has c.args.row.now.source.now) c.args.row.now.points.row c.args.row.now.points.col (length c.args.values.now)
    (formula_view c.args.accumulator.now.value) c.requires.some c.requires.formulas.value (λ k l. (c.requires.reads k l).0)

pub borrow_or_evaluate_row-line-requires-clause-reads : goal.borrow_or_evaluate_row-line-requires-clause-reads
borrow_or_evaluate_row-line-requires-clause-reads g c =
    found_reads (g.S.RowSource.has c.args.row.now.source.now) c.args.row.now.points.row c.args.row.now.points.col (length c.args.values.now)
    c.args.accumulator.now.value c.value-value.result.now c.value-value.ensures c.requires.some c.requires.formulas.value
    (λ k l. (c.requires.reads k l).0)

pub borrow_or_evaluate_row-each-requires-clause-reads : goal.borrow_or_evaluate_row-each-requires-clause-reads
borrow_or_evaluate_row-each-requires-clause-reads g c =
    let has = g.S.RowSource.has c.args.row.now.source.now in
    let start = c.args.row.now.points in
    subst (λ (n : ℕ). ReadsWithin has (formula_view c.bin-bin.result.now) start.row start.col n) (sym c.requires.one_length)
    (found_reads has start.row start.col (length c.args.values.now) c.args.accumulator.now.bin c.bin-bin.result.now c.bin-bin.ensures
    c.requires.some c.requires.formulas.bin (λ k l. (c.requires.reads k l).1))

pub add_number_to_bin_of_each_point_of_row-requires-clause-reads : goal.add_number_to_bin_of_each_point_of_row-requires-clause-reads
add_number_to_bin_of_each_point_of_row-requires-clause-reads g c =
    let has = g.S.RowSource.has c.args.row.now.source.now in
    let start = c.args.row.now.points in
    subst (λ (n : ℕ). ReadsWithin has (formula_view c.bin-bin.result.now) start.row start.col n) (sym c.requires.one_length)
    (found_reads has start.row start.col (length c.args.values.now) c.args.accumulator.now.bin c.bin-bin.result.now c.bin-bin.ensures
    c.requires.some c.requires.formulas.bin (λ k l. (c.requires.reads k l).1))

pub returns-in-Some : goal.returns-in-Some
returns-in-Some g c =
    let env : Valuation = g.S.RowSource.samples c.args.row.now.source.now in
    let a = c.args.accumulator.now in
    let r : ℤ = c.args.row.now.points.row in
    let x : ℤ = c.args.row.now.points.col in
    let n : ℕ = length c.args.values.now in
    let value : ℤ → ℤ → ℤ = formula_value env (formula_view a.value) in
    let bin : ℤ → ℤ → ℤ = formula_value env (formula_view a.bin) in
    let first : ℤ = a.bins.lo +ℤ pos c.in-Some.place in
    let there : EachPlace n (λ k. bin r (x +ℤ pos k) ≡ first +ℤ pos k) = λ k l.
    ap (λ (f : KeptFormula). formula_value env (formula_view f) r (x +ℤ pos k)) (sym c.bin-bin.ensures)
    ∙ c.in-Some.ensures.values env k (omega (arith, l, c.requires.fits))
    ∙ (λ i. (c.bins-2.ensures i).lo +ℤ pos c.in-Some.place +ℤ pos k) in
    row_took a.fold value bin a.bins.lo r x n (values_along env (formula_view a.value) r x n) (numbers_from first n) c.args.bins.now
    c.accumulate_point_row_in_adjacent_bins.new.bins refl (counted_is (bin r) x first n there)
    (c.accumulate_point_row_in_adjacent_bins.ensures a.bins.lo)

pub returns-in-Some-find_constant_along_row : goal.returns-in-Some-find_constant_along_row
returns-in-Some-find_constant_along_row g c =
    let env : Valuation = g.S.RowSource.samples c.args.row.now.source.now in
    let a = c.args.accumulator.now in
    let r : ℤ = c.args.row.now.points.row in
    let x : ℤ = c.args.row.now.points.col in
    let n : ℕ = length c.args.values.now in
    let value : ℤ → ℤ → ℤ = formula_value env (formula_view a.value) in
    let bin : ℤ → ℤ → ℤ = formula_value env (formula_view a.bin) in
    let one : ℤ = c.in-Some-find_constant_along_row.one in
    let one_fits : FitsSigned w32 one = search rules in
    let same : (z : ℤ) → bin r z ≡ one = λ z.
    ap (λ (f : KeptFormula). formula_value env (formula_view f) r z) (sym c.bin-bin.ensures) ∙ c.in-Some-find_constant_along_row.ensures env z in
    let vs : List ℤ = values_along env (formula_view a.value) r x n in
    row_took a.fold value bin a.bins.lo r x n vs (replicate n one) c.args.bins.now c.accumulate_point_row_in_one_bin.new.bins refl
    (same_is (bin r) x one n same) (λ j h. c.accumulate_point_row_in_one_bin.ensures j h
    ∙ (λ i. after_values a.fold (at c.args.bins.now j) (values_of_bin vs (replicate n (to_z-of_z w32 one one_fits i)) (a.bins.lo +ℤ pos j))))

pub returns-in-Sum-Some : goal.returns-in-Sum-Some
returns-in-Sum-Some g c =
    let env : Valuation = g.S.RowSource.samples c.args.row.now.source.now in
    let a = c.args.accumulator.now in
    let r : ℤ = c.args.row.now.points.row in
    let x : ℤ = c.args.row.now.points.col in
    let n : ℕ = length c.args.values.now in
    let value : ℤ → ℤ → ℤ = formula_value env (formula_view a.value) in
    let bin : ℤ → ℤ → ℤ = formula_value env (formula_view a.bin) in
    let lo_fits : FitsSigned w32 c.lo-lo.result = search rules in
    let lo : to_z w32 (of_z w32 c.lo-lo.result) ≡ a.bins.lo = to_z-of_z w32 c.lo-lo.result lo_fits ∙ c.lo-lo.ensures.end
    ∙ (λ i. (c.bins.ensures i).lo) in
    let number : ℤ = c.in-Sum-Some.number in
    let number_fits : FitsSigned w32 number = search rules in
    let same : (z : ℤ) → value r z ≡ number = λ z.
    ap (λ (f : KeptFormula). formula_value env (formula_view f) r z) (sym c.value-value.ensures) ∙ c.in-Sum-Some.ensures env z in
    let sum : Sum ≡ a.fold = sym c.in-Sum-Some.is-0 ∙ c.fold-op.ensures in
    row_took a.fold value bin a.bins.lo r x n (replicate n number) (values_along env (formula_view a.bin) r x n) c.args.bins.now
    c.add_number_to_bin_of_each_point_of_row.new.bins (same_is (value r) x number n same) refl
    (λ j h. c.add_number_to_bin_of_each_point_of_row.ensures j h
    ∙ (λ i. after_values (sum i) (at c.args.bins.now j)
    (values_of_bin (replicate (c.requires.one_length i) (to_z-of_z w32 number number_fits i))
    (values_along env (formula_view (c.bin-bin.ensures i)) r x (c.requires.one_length i)) (lo i +ℤ pos j))))

pub returns : goal.returns
returns g c =
    let env : Valuation = g.S.RowSource.samples c.args.row.now.source.now in
    let a = c.args.accumulator.now in
    let r : ℤ = c.args.row.now.points.row in
    let x : ℤ = c.args.row.now.points.col in
    let n : ℕ = length c.args.values.now in
    let value : ℤ → ℤ → ℤ = formula_value env (formula_view a.value) in
    let bin : ℤ → ℤ → ℤ = formula_value env (formula_view a.bin) in
    let lo_fits : FitsSigned w32 c.lo-lo.result = search rules in
    let lo : to_z w32 (of_z w32 c.lo-lo.result) ≡ a.bins.lo = to_z-of_z w32 c.lo-lo.result lo_fits ∙ c.lo-lo.ensures.end
    ∙ (λ i. (c.bins.ensures i).lo) in
    let vs : List ℤ = c.borrow_or_evaluate_row-line.result.now in
    let values : vs ≡ map (value r) (numbers_from x n) =
    row_is (value r) x n vs c.borrow_or_evaluate_row-line.ensures.count
    (λ k l. c.borrow_or_evaluate_row-line.ensures.values k l
    ∙ ap (λ (f : KeptFormula). formula_value env (formula_view f) r (x +ℤ pos k)) c.value-value.ensures) in
    let cs : List ℤ = c.borrow_or_evaluate_row-each.result.now in
    let bins : cs ≡ map (bin r) (numbers_from x n) =
    row_is (bin r) x n cs (c.borrow_or_evaluate_row-each.ensures.count ∙ c.requires.one_length)
    (λ k l. c.borrow_or_evaluate_row-each.ensures.values k (rw c.requires.one_length l)
    ∙ ap (λ (f : KeptFormula). formula_value env (formula_view f) r (x +ℤ pos k)) c.bin-bin.ensures) in
    row_took a.fold value bin a.bins.lo r x n vs cs c.args.bins.now c.accumulate_row_of_values_in_bins.new.bins values bins (λ j h. c.accumulate_row_of_values_in_bins.ensures j h
    ∙ (λ i. after_values (c.fold-op.ensures i) (at c.args.bins.now j) (values_of_bin vs cs (lo i +ℤ pos j))))
