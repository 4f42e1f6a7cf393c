use Rattle.std.proofs.Common.{rules, arith, suc, ◌≡◌, ◌<◌, ◌+◌, ◌-◌, ◌*◌, ◌+ℤ◌, pos, drop, length, replicate}
use Rattle.std.proofs.Common.{ℕ, ℤ, w32, to_z, of_z, FitsSigned, get_or, List, sym, ap, subst, ◌∙◌}
use Rattle.std.specs.Prelude.{map}
use Rattle.std.specs.Ordering.{int_eq}
use Rattle.std.proofs.lemmas.Int.{to_z-of_z}
use Rattle.std.proofs.lemmas.List.{length-map}
use Rattle.operators.specs.declared.operator.ReductionOp.TheVariants.{Sum}
use Rattle.job.specs.Totals.{joined}
use Rattle.tile_eval.specs.Rows.{at}
use Rattle.reductions.specs.inside.Gathering.{once_came, after_values, values_of_bin}
use Rattle.reductions.proofs.TakeValues.{at_same, same_long}
use Rattle.reductions.proofs.TwoTables.{byte_bin, first_more, second_more, none_left, came_anywhere}
use Rattle.reductions.proofs.byte_bins.add_number_to_bins_of_byte_pairs.Goals as goal

pub loop-k-preserved : goal.loop-k-preserved
loop-k-preserved c = λ j h.
    let k : ℕ = c.loop-k.k in
    let d : ℕ = 2 * k in
    let bytes : List ℕ = c.args.bytes.now in
    let cs : List ℤ = map pos bytes in
    let x : ℤ = to_z w32 (of_z w32 c.args.number) in
    let vs : List ℤ = replicate (length bytes) x in
    let b : ℤ = pos 0 +ℤ pos j in
    let long : length vs ≡ length bytes = same_long (length bytes) x in
    let count : length cs ≡ length vs = length-map bytes pos ∙ sym long in
    let there : d + 1 < length bytes = omega arith in
    let before : d < length bytes = omega (arith, there) in
    let inside : j < length c.loop-k.bins = omega (arith, c.accumulate_value_at_bin_place.auto.bins) in
    let bin : pos 0 +ℤ pos c.from.result ≡ at cs d = byte_bin bytes d c.from.result before c.from.ensures in
    let came : at c.accumulate_value_at_bin_place.new.bins j ≡ once_came Sum (int_eq (at cs d) b) (at c.loop-k.bins j) (at vs d) =
    c.accumulate_value_at_bin_place.ensures (pos 0) j inside
    ∙ (λ i. once_came Sum (int_eq (bin i) b) (at c.loop-k.bins j) (sym (at_same x (length bytes) d before) i)) in
    let second = c.accumulate_value_at_bin_place-in-loop-k in
    let next : d + 1 ≡ suc d = omega arith in
    let bin_2 : pos 0 +ℤ pos c.from-in-loop-k.result ≡ at cs (suc d) = byte_bin bytes (suc d) c.from-in-loop-k.result
    (omega (arith, there)) (c.from-in-loop-k.ensures ∙ ap (λ (m : ℕ). get_or bytes m 0) next) in
    let came_2 : at second.new.bins j ≡ once_came Sum (int_eq (at cs (suc d)) b) (at c.loop-k.second j) (at vs (suc d)) =
    came_anywhere c.loop-k.second second.new.bins c.from-in-loop-k.result x (search rules) second.auto.bins (second.ensures (pos 0)) j
    ∙ (λ i. once_came Sum (int_eq (bin_2 i) b) (at c.loop-k.second j) (sym (at_same x (length bytes) (suc d) (omega (arith, there))) i)) in
    let first : ℤ = after_values Sum (joined Sum (at c.args.bins.now j) (at c.args.second.now j)) (values_of_bin vs cs b) in
    let both : ℤ = joined Sum (at c.accumulate_value_at_bin_place.new.bins j) (at second.new.bins j) in
    let twice : suc (suc d) ≡ 2 * (k + 1) = omega arith in
    subst (λ (n : ℕ). after_values Sum both (values_of_bin (drop n vs) (drop n cs) b) ≡ first) twice
    (second_more vs cs b (suc d) (at c.accumulate_value_at_bin_place.new.bins j) (at c.loop-k.second j) (at second.new.bins j) first
    (omega (arith, there, long)) count came_2
    (first_more vs cs b d (at c.loop-k.bins j) (at c.loop-k.second j) (at c.accumulate_value_at_bin_place.new.bins j) first
    (omega (arith, before, long)) count came (c.loop-k.invariant j inside)))

-- the last byte of an odd number of them
pub returns-then-bytes-eq1 : goal.returns-then-bytes-eq1
returns-then-bytes-eq1 c = λ j h.
    let d : ℕ = 2 * c.loop-k.k in
    let bytes : List ℕ = c.args.bytes.now in
    let cs : List ℤ = map pos bytes in
    let x : ℤ = to_z w32 (of_z w32 c.args.number) in
    let vs : List ℤ = replicate (length bytes) x in
    let b : ℤ = pos 0 +ℤ pos j in
    let long : length vs ≡ length bytes = same_long (length bytes) x in
    let count : length cs ≡ length vs = length-map bytes pos ∙ sym long in
    let all : length bytes ≡ suc d = omega (arith, c.loop-k-test.false, c.loop-k.auto.k-end, c.if-bytes-eq1.true) in
    let there : d < length bytes = omega (arith, all) in
    let last : length bytes - 1 ≡ d = omega (arith, all) in
    let came = c.accumulate_value_at_bin_place-then-bytes-eq1 in
    let inside : j < length c.loop-k.bins = omega (arith, came.auto.bins) in
    let bin : pos 0 +ℤ pos c.from-then-bytes-eq1.result ≡ at cs d =
    byte_bin bytes d c.from-then-bytes-eq1.result there (c.from-then-bytes-eq1.ensures ∙ ap (λ (m : ℕ). get_or bytes m 0) last) in
    let is : at came.new.bins j ≡ once_came Sum (int_eq (at cs d) b) (at c.loop-k.bins j) (at vs d) = came.ensures (pos 0) j inside
    ∙ (λ i. once_came Sum (int_eq (bin i) b) (at c.loop-k.bins j) (sym (at_same x (length bytes) d there) i)) in
    let start : ℤ = joined Sum (at c.args.bins.now j) (at c.args.second.now j) in
    let first : ℤ = after_values Sum start (values_of_bin vs cs b) in
    let number_fits : FitsSigned w32 c.args.number = search rules in
    none_left vs cs b (suc d) (joined Sum (at came.new.bins j) (at c.loop-k.second j)) first (omega (arith, all, long))
    (first_more vs cs b d (at c.loop-k.bins j) (at c.loop-k.second j) (at came.new.bins j) first (omega (arith, all, long)) count is
    (c.loop-k.invariant j inside))
    ∙ (λ i. after_values Sum start (values_of_bin (replicate (length bytes) (to_z-of_z w32 c.args.number number_fits i)) cs b))
