use Rattle.std.proofs.Common.{rules, arith, ℕ, ◌≡◌, ◌≢◌, ◌<◌, ◌≤◌, length, pos, w64, to_z, of_z, FitsSigned, get_or-set_other, ◌∙◌}
use Rattle.std.proofs.lemmas.Int.{to_z-of_z}
use Rattle.job.specs.Totals.{joined}
use Rattle.tile_eval.specs.Rows.{at}
use Rattle.row_loops.proofs.Writing.{EachPlace-more}
use Rattle.reductions.proofs.JoinInto.{joined_by_places}
use Rattle.reductions.proofs.join.join_each_bin.Goals as goal

pub loop-k-preserved : goal.loop-k-preserved
loop-k-preserved c =
    let k : ℕ = c.loop-k.k in
    let fits : FitsSigned w64 c.join_two_numbers_of_bin.result = search rules in
    let first_fits : FitsSigned w64 (at c.loop-k.bins k) = search rules in
    let second_fits : FitsSigned w64 (at c.args.others.now k) = search rules in
    let here : k ≤ k = omega arith in
    let within : k < length c.loop-k.bins = omega (arith, c.loop-k.auto.bins) in
    let first : to_z w64 (of_z w64 (at c.loop-k.bins k)) ≡ at c.args.bins.now k = to_z-of_z w64 (at c.loop-k.bins k) first_fits
    ∙ c.loop-k.invariant.ahead k here in
    let second : to_z w64 (of_z w64 (at c.args.others.now k))
    ≡ at c.args.others.now k = to_z-of_z w64 (at c.args.others.now k) second_fits in
    record {
      done = EachPlace-more (λ j. joined c.args.op (at c.args.bins.now j) (at c.args.others.now j)) c.loop-k.bins k _ within
          (to_z-of_z w64 c.join_two_numbers_of_bin.result fits ∙ c.join_two_numbers_of_bin.ensures ∙ (λ i. joined c.args.op (first i) (second i))) c.loop-k.invariant.done;
      ahead = λ j h.
          let other : j ≢ k = omega arith in
          let from : k ≤ j = omega arith in
          get_or-set_other c.loop-k.bins k j _ (pos 0) other ∙ c.loop-k.invariant.ahead j from;
    }

pub returns : goal.returns
returns c =
    joined_by_places c.args.op c.args.bins.now c.args.others.now c.loop-k.bins c.requires c.loop-k.auto.bins
    (λ k h. c.loop-k.invariant.done k (omega arith))
