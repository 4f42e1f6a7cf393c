-- The pixels before are left as they were, and a pixel has three pairs.
use Rattle.std.proofs.Common.{arith, ◌*◌, ◌+◌}
use borrow.Author.Count.{below_more}
use Rattle.raw_rows.proofs.Encoded.{pair_is, pair_kept, pairs_kept}
use Rattle.raw_rows.proofs.encoding.encode_colour_raw_row_in_pairs.Goals as goal

pub loop-k-preserved : goal.loop-k-preserved
loop-k-preserved g c =
    let n = c.loop-k.k in
    let one = c.write_raw_row_pair.ensures in
    let two = c.write_raw_row_pair-in-loop-k.ensures in
    let three = c.write_raw_row_pair-in-loop-k-2.ensures in
    let first = pair_is _ (6 * n) _ _ c.clamp_raw_row_number.ensures.value one.high one.low in
    let second = pair_is _ (6 * n + 2) _ _ c.clamp_raw_row_number-in-loop-k.ensures.value two.high two.low in
    let third = pair_is _ (6 * n + 4) _ _ c.clamp_raw_row_number-in-loop-k-2.ensures.value three.high three.low in
    below_more _ n
    (λ k lt.
    pairs_kept _ _ (6 * n + 4) _ _ _ _ three.before (omega arith)
    (pairs_kept _ _ (6 * n + 2) _ _ _ _ two.before (omega arith)
    (pairs_kept _ _ (6 * n) _ _ _ _ one.before (omega arith) (c.loop-k.invariant k lt))))
    (record {
      first = pair_kept _ _ (6 * n + 4) _ _ three.before (omega arith) (pair_kept _ _ (6 * n + 2) _ _ two.before (omega arith) first);
      second = pair_kept _ _ (6 * n + 4) _ _ three.before (omega arith) second;
      third = third;
    })
