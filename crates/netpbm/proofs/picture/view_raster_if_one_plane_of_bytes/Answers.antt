-- The bytes of the one plane are written as they stand.
use Rattle.std.proofs.Common.{◌∙◌, sym, arith}
use Rattle.std.proofs.lemmas.Option.{IfSome_then}
use Rattle.netpbm.proofs.Planes.{one_made}
use Rattle.netpbm.proofs.Rasters.{raw_raster_one}
use Rattle.netpbm.specs.MadePlane.{made_samples}
use Rattle.netpbm.specs.Colours.{interleaved}
use Rattle.netpbm.proofs.picture.view_raster_if_one_plane_of_bytes.Goals as goal

pub returns : goal.returns
returns c =
    let planes = c.args.planes.now in
    let grey = one_made planes c.index-planes-0.result (omega arith) c.index-planes-0.is in
    IfSome_then c.view_contiguous_sample_bytes.result c.view_contiguous_sample_bytes.ensures
    (λ bytes h. h _ c.samples.ensures ∙ sym (raw_raster_one c.args.max (interleaved (made_samples planes)) (omega arith) ∙ grey))
