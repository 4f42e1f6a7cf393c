-- A piece more.
use Rattle.std.proofs.Common.{◌∙◌, sym, ap, take, arith}
use Rattle.netpbm.proofs.Ranges.{length_range, added}
use Rattle.netpbm.proofs.packed_samples.append_packed_samples_to_byte_list.Goals as goal

pub loop-done-preserved : goal.loop-done-preserved
loop-done-preserved c =
    let xs = c.args.samples.now in
    let done = c.loop-done.done in
    let end = c.min-end.result in
    let part = ap (λ n. take n c.encode_sample_bytes_into_buffer.new.out) (sym (length_range xs done end (omega arith))) ∙ c.encode_sample_bytes_into_buffer.ensures in
    (omega arith, added _ _ _ xs _ done end (omega arith) c.loop-done.invariant.1 part c.in_ok-extend_from_slice.ensures.items)
