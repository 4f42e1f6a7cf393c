-- One byte for each sample.
use Rattle.std.proofs.Common.{◌∙◌, sym}
use Rattle.netpbm.proofs.Rasters.{raw_raster_one}
use Rattle.raw_rows.proofs.encoding.encode_grey_raw_row.Goals as goal

pub returns-then-max-lt256 : goal.returns-then-max-lt256
returns-then-max-lt256 g c =
    c.encode_grey_raw_row_in_bytes.ensures ∙ sym (raw_raster_one c.args.max _ c.if-max-lt256.true)
