-- No sample of the three is above the greatest, so none of those in turn is.
use Rattle.std.proofs.Common.{◌≤◌, All, sym, subst}
use Rattle.netpbm.proofs.Written.{All-woven}
use Rattle.netpbm.proofs.writing.encode_colour_samples_into_buffer.Goals as goal

pub encode_raw_samples_into_buffer-requires-clause-bounded : goal.encode_raw_samples_into_buffer-requires-clause-bounded
encode_raw_samples_into_buffer-requires-clause-bounded c =
    let r = c.requires in
    subst (All (λ s. s ≤ c.args.max)) (sym c.write_interleaved_colour_samples.ensures) (All-woven c.args.max _ _ _ r.red_bounded r.green_bounded r.blue_bounded)
