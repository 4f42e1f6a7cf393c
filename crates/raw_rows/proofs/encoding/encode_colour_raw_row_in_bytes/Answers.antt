-- The pixels before are left as they were, and a pixel has three bytes.
use Rattle.std.proofs.Common.{arith, ◌*◌, ◌∙◌}
use borrow.Author.Count.{below_more}
use Rattle.raw_rows.proofs.Encoded.{bytes_kept, bytes_set}
use Rattle.raw_rows.proofs.encoding.encode_colour_raw_row_in_bytes.Goals as goal

pub loop-k-preserved : goal.loop-k-preserved
loop-k-preserved g c =
    let n = c.loop-k.k in
    let red = c.clamp_raw_row_number.ensures.value in
    let green = c.clamp_raw_row_number-in-loop-k.ensures.value in
    let blue = c.clamp_raw_row_number-in-loop-k-2.ensures.value in
    let here = bytes_set c.loop-k.out (3 * n) _ _ _ (omega arith) in
    below_more _ n (λ k lt. bytes_kept c.loop-k.out (3 * n) _ _ _ _ _ _ _ (omega arith) (c.loop-k.invariant k lt))
    (here.0 ∙ red, here.1 ∙ green, here.2 ∙ blue)
