-- A part of whole samples has those samples.
use Rattle.std.proofs.Common.{◌∙◌, ◌*◌, ◌/◌, min, length, take, ap}
use Rattle.netpbm.specs.Raw.{decoded}
use Rattle.netpbm.proofs.RawReads.{decoded-take}
use Rattle.netpbm.proofs.raw_raster.view_first_whole_samples_of_raster.Goals as goal

pub returns-clause-samples : goal.returns-clause-samples
returns-clause-samples c =
    let a = c.args in
    let width = c.count_bytes_per_raw_sample-width.result in
    ap (λ n. decoded a.max (take (n * width) a.raster.now)) c.min-whole.ensures
    ∙ ap (λ w. decoded a.max (take (min a.count (length a.raster.now / w) * w) a.raster.now)) c.count_bytes_per_raw_sample-width.ensures
    ∙ decoded-take a.max a.count a.raster.now
