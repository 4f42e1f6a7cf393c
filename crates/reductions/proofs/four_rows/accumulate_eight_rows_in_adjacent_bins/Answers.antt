use Rattle.std.proofs.Common.{arith, ℕ, ℤ, ◌≡◌, ◌<◌, ◌+◌, ◌+ℤ◌, pos, length, refl, sym, ap, subst, ◌∙◌}
use Rattle.std.specs.Prelude.{map}
use Rattle.std.proofs.lemmas.Int.{ints}
use Rattle.std.proofs.lemmas.List.{length-map}
use Rattle.domains.specs.Span.{Ends, len_of, numbers_from}
use Rattle.job.specs.declared.formula.Formula.{Formula as KeptFormula}
use Rattle.job.specs.Reads.{EachRead}
use Rattle.job.specs.Values.{Valuation, formula_value}
use Rattle.job.specs.Views.{formula_view}
use Rattle.tile_eval.specs.Rows.{at}
use Rattle.reductions.specs.Bins.{joined_bins}
use Rattle.reductions.specs.inside.Gathering.{after_values, points_from, values_among, values_of_bin}
use Rattle.reductions.proofs.FourRows.{eight_are_joined, eight_rows_took, four_are_values, row_long}
use Rattle.reductions.proofs.four_rows.accumulate_eight_rows_in_adjacent_bins.Goals as goal

pub borrow_eight_byte_rows_of_bin_values-requires-clause-reads : goal.borrow_eight_byte_rows_of_bin_values-requires-clause-reads
borrow_eight_byte_rows_of_bin_values-requires-clause-reads g c = λ q d inside.
    subst (λ (f : KeptFormula). EachRead (g.S.RowSource.has c.args.source.now) (formula_view f) q d) (sym c.value-value.ensures)
    (c.requires.reads q d inside).0

pub join_columns_into_bin_values-requires : goal.join_columns_into_bin_values-requires
join_columns_into_bin_values-requires g c =
    let found = c.in-Some-borrow_eight_byte_rows_of_bin_values in
    let env : Valuation = g.S.RowSource.samples c.args.source.now in
    c.requires.width
    ∙ sym (row_long env (formula_view c.value-value.result.now) c.args.area.now c.args.row found.rows.upper.first.now found.ensures.upper.first)

pub accumulate_values_in_adjacent_bins-requires : goal.accumulate_values_in_adjacent_bins-requires
accumulate_values_in_adjacent_bins-requires g c =
    let values = c.join_columns_into_bin_values.new.joined in
    let long = length-map values pos in
    let same = c.join_columns_into_bin_values.auto.joined in
    let within = c.in-Some.ensures.within in
    let bins : len_of c.bins.result.now ≡ length c.args.bins.now = ap len_of c.bins.ensures ∙ sym c.requires.bins in
    omega (arith, long, same, c.requires.width, within, bins)

pub returns-clause-took : goal.returns-clause-took
returns-clause-took g c = λ _ j h.
    let env : Valuation = g.S.RowSource.samples c.args.source.now in
    let f = formula_view c.value-value.result.now in
    let bin : ℤ → ℤ → ℤ = formula_value env (formula_view c.bin-bin.result.now) in
    let area = c.args.area.now in
    let found = c.in-Some-borrow_eight_byte_rows_of_bin_values in
    let u = found.rows.upper in
    let d = found.rows.lower in
    let values = c.join_columns_into_bin_values.new.joined in
    let way = c.fold.result in
    let r : ℤ = area.rows.lo +ℤ pos c.args.row in
    let n : ℕ = len_of area.cols in
    let start : ℤ = c.args.accumulator.now.bins.lo +ℤ pos c.in-Some.place in
    let b : ℤ = c.args.accumulator.now.bins.lo +ℤ pos j in
    let old : ℤ = at c.args.bins.now j in
    let next : (m : ℕ) → area.rows.lo +ℤ pos (c.args.row + m) ≡ r +ℤ pos m = λ m. omega (arith, ints) in
    let all : length values ≡ n = c.join_columns_into_bin_values.auto.joined ∙ c.requires.width in
    let long : length (map pos values) ≡ n = length-map values pos ∙ all in
    let wide = row_long env f area c.args.row u.first.now found.ensures.upper.first in
    let joined = eight_are_joined way u.first.now u.second.now u.third.now u.fourth.now d.first.now d.second.now d.third.now d.fourth.now values
    u.second_long u.third_long u.fourth_long found.rows.long d.second_long d.third_long d.fourth_long (all ∙ sym wide)
    (λ k l. c.join_columns_into_bin_values.ensures k (omega (arith, l, c.join_columns_into_bin_values.auto.joined)))
    ∙ (λ i. joined_bins way
    (four_are_values way env f area c.args.row r u.first.now u.second.now u.third.now u.fourth.now refl found.ensures.upper i)
    (four_are_values way env f area (c.args.row + 4) (r +ℤ pos 4) d.first.now d.second.now d.third.now d.fourth.now (next 4) found.ensures.lower i)) in
    let there : (m k : ℕ) → m < 8 → k < n → bin (r +ℤ pos m) (area.cols.lo +ℤ pos k) ≡ start +ℤ pos k = λ m k below l.
    ap (λ (z : ℤ). bin z (area.cols.lo +ℤ pos k)) (sym (next m))
    ∙ c.in-Some.ensures.values env m k below l
    ∙ ap (λ (s : Ends). s.lo +ℤ pos c.in-Some.place +ℤ pos k) c.bins.ensures in
    c.accumulate_values_in_adjacent_bins.ensures c.args.accumulator.now.bins.lo j h
    ∙ (λ i. after_values ((c.fold-2.ensures ∙ sym c.fold.ensures) i) old (values_of_bin (joined i) (numbers_from start (long i)) b))
    ∙ eight_rows_took way (formula_value env f) bin r area.cols.lo start n there b old
    ∙ (λ i. after_values (c.fold.ensures i) old (values_among (formula_value env (formula_view (c.value-value.ensures i)))
    (formula_value env (formula_view (c.bin-bin.ensures i))) (points_from r 8 area.cols.lo n) b))
