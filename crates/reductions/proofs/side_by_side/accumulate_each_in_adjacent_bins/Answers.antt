use Rattle.std.proofs.Common.{rules, arith, ◌≡◌, ◌<◌, ◌+◌, ◌+ℤ◌, pos, length}
use Rattle.std.proofs.Common.{ℕ, ℤ, w32, FitsSigned, List, sym, ◌∙◌, add-one}
use Rattle.std.proofs.lemmas.Int.{ints, to_z-of_z}
use Rattle.std.specs.Ordering.{int_eq}
use Rattle.domains.specs.Span.{numbers_from}
use Rattle.domains.proofs.Spans.{length-numbers_from}
use Rattle.tile_eval.specs.Rows.{at}
use Rattle.reductions.specs.inside.Gathering.{once_came, after_values, values_of_bin}
use Rattle.reductions.proofs.TakeValues.{one_more, at_counted}
use Rattle.reductions.proofs.side_by_side.accumulate_each_in_adjacent_bins.Goals as goal

pub loop-k-preserved : goal.loop-k-preserved
loop-k-preserved g c = λ lo j h.
    let k : ℕ = c.loop-k.k in
    let vs : List ℤ = g.V.BinValues.values c.args.values in
    let first : ℤ = lo +ℤ pos c.args.place in
    let cs : List ℤ = numbers_from first (length vs) in
    let b : ℤ = lo +ℤ pos j in
    let read : ℤ = c.read_bin_value.result in
    let below : k < length vs = omega (arith, c.count_bin_values-k-end.ensures) in
    let inside : j < length c.loop-k.bins = omega (arith, c.accumulate_value_at_bin_place.auto.bins) in
    let value_fits : FitsSigned w32 read = search rules in
    let there : lo +ℤ pos (c.args.place + k) ≡ first +ℤ pos k = omega (arith, ints) in
    let bin : lo +ℤ pos (c.args.place + k) ≡ at cs k = there ∙ sym (at_counted first (length vs) k below) in
    let came : at c.accumulate_value_at_bin_place.new.bins j ≡ once_came c.args.op (int_eq (at cs k) b) (at c.loop-k.bins j) (at vs k) =
    c.accumulate_value_at_bin_place.ensures lo j inside
    ∙ (λ i. once_came c.args.op (int_eq (bin i) b) (at c.loop-k.bins j) ((to_z-of_z w32 read value_fits ∙ c.read_bin_value.ensures) i)) in
    rw add-one (one_more c.args.op vs cs b k (at c.loop-k.bins j) (at c.accumulate_value_at_bin_place.new.bins j)
    (after_values c.args.op (at c.args.bins.now j) (values_of_bin vs cs b)) below (length-numbers_from first (length vs)) came
    (c.loop-k.invariant lo j inside))
