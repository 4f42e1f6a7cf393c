-- One byte for each sample.
use Rattle.std.proofs.Common.{◌∙◌, sym}
use Rattle.netpbm.proofs.Rasters.{raw_raster_one}
use Rattle.netpbm.proofs.raw_raster.encode_raw_samples_into_buffer.Goals as goal

pub returns-then-max-lt256-clause-written : goal.returns-then-max-lt256-clause-written
returns-then-max-lt256-clause-written c = c.encode_sample_bytes_into_buffer.ensures ∙ sym (raw_raster_one c.args.max c.args.samples.now c.if-max-lt256.true)
