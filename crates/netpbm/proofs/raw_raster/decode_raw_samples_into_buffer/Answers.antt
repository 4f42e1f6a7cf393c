-- Two bytes a sample.
use Rattle.std.proofs.Common.{◌≤◌, ◌*◌, length, rules}
use Rattle.netpbm.proofs.RawReads.{two_bytes_each, pairs_part}
use Rattle.netpbm.proofs.raw_raster.decode_raw_samples_into_buffer.Goals as goal

pub overflow_mul-start : goal.overflow_mul-start
overflow_mul-start c =
    let fits : 2 * c.args.end ≤ length c.args.raster.now =
    two_bytes_each c.args.max c.args.end c.args.raster.now (search rules) c.requires.within in
    search rules

pub overflow_mul-end : goal.overflow_mul-end
overflow_mul-end c =
    let fits : 2 * c.args.end ≤ length c.args.raster.now =
    two_bytes_each c.args.max c.args.end c.args.raster.now (search rules) c.requires.within in
    search rules

pub slice_bounds-decode_sample_byte_pairs_into_buffer-end : goal.slice_bounds-decode_sample_byte_pairs_into_buffer-end
slice_bounds-decode_sample_byte_pairs_into_buffer-end c = two_bytes_each c.args.max c.args.end c.args.raster.now (search rules) c.requires.within

pub returns-else-max-lt256 : goal.returns-else-max-lt256
returns-else-max-lt256 c =
    let a = c.args in
    pairs_part a.max a.raster.now c.decode_sample_byte_pairs_into_buffer.new.out a.start a.end (search rules) c.requires.order
    (two_bytes_each a.max a.end a.raster.now (search rules) c.requires.within) c.decode_sample_byte_pairs_into_buffer.ensures
