use Rattle.std.proofs.Common.{arith, ◌≡◌, ◌<◌, ◌+ℤ◌, pos, length, replicate}
use Rattle.std.proofs.Common.{ℕ, ℤ, w32, to_z, of_z, List, sym, ◌∙◌, add-one}
use Rattle.std.specs.Prelude.{map}
use Rattle.std.specs.Ordering.{int_eq}
use Rattle.std.proofs.lemmas.List.{length-map}
use Rattle.operators.specs.declared.operator.ReductionOp.TheVariants.{Sum}
use Rattle.tile_eval.specs.Rows.{at}
use Rattle.reductions.specs.inside.Gathering.{once_came}
use Rattle.reductions.proofs.TakeValues.{one_more, at_same, same_long}
use Rattle.reductions.proofs.TwoTables.{byte_bin}
use Rattle.reductions.proofs.byte_bins.add_number_to_bin_of_each_byte_in_turn.Goals as goal

pub loop-k-preserved : goal.loop-k-preserved
loop-k-preserved c = λ j h.
    let k : ℕ = c.loop-k.k in
    let bytes : List ℕ = c.args.bytes.now in
    let cs : List ℤ = map pos bytes in
    let x : ℤ = to_z w32 (of_z w32 c.args.number) in
    let vs : List ℤ = replicate (length bytes) x in
    let b : ℤ = pos 0 +ℤ pos j in
    let long : length vs ≡ length bytes = same_long (length bytes) x in
    let count : length cs ≡ length bytes = length-map bytes pos in
    let there : k < length bytes = omega arith in
    let below : k < length vs = omega (arith, long) in
    let inside : j < length c.loop-k.bins = omega (arith, c.accumulate_value_at_bin_place.auto.bins) in
    let bin : pos 0 +ℤ pos c.from.result ≡ at cs k = byte_bin bytes k c.from.result there c.from.ensures in
    let came : at c.accumulate_value_at_bin_place.new.bins j ≡ once_came Sum (int_eq (at cs k) b) (at c.loop-k.bins j) (at vs k) =
    c.accumulate_value_at_bin_place.ensures (pos 0) j inside
    ∙ (λ i. once_came Sum (int_eq (bin i) b) (at c.loop-k.bins j) (sym (at_same x (length bytes) k there) i)) in
    rw add-one (one_more Sum vs cs b k (at c.loop-k.bins j) (at c.accumulate_value_at_bin_place.new.bins j) _ below (count ∙ sym long) came
    (c.loop-k.invariant j inside))
