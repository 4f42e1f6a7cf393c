-- The raster has as many bytes as the picture wants, and none of its samples is above the greatest.
use Rattle.std.proofs.Common.{◌≡◌, ◌-◌, ◌*◌, ℕ, List, length, take, drop, sym, ap, subst}
use Rattle.std.proofs.lemmas.Bool.{OnTrue_at}
use Rattle.std.proofs.lemmas.List.{take_rest}
use Rattle.netpbm.specs.Colours.{separated}
use Rattle.netpbm.specs.Raw.{width_of, decoded}
use Rattle.netpbm.proofs.ReadLaws.{raw_planes_are}
use Rattle.netpbm.proofs.reading.check_raw_raster_after_header.Goals as goal

pub returns-then-has_bounded_raster_samples-clause-ok : goal.returns-then-has_bounded_raster_samples-clause-ok
returns-then-has_bounded_raster_samples-clause-ok c =
    let h = c.args.header.now in
    let bytes = c.args.bytes.now in
    let raster = take (length bytes - h.end) (drop h.end bytes) in
    let area = c.count_samples_per_plane in
    let many : length raster ≡ (h.colours * area.result) * width_of h.max =
    subst (λ (w : ℕ). length raster ≡ (h.colours * area.result) * w) c.count_bytes_per_raw_sample.ensures c.if-raster-count.true in
    let size = subst (λ (area : ℕ). length raster ≡ (h.colours * area) * width_of h.max) area.ensures.value many in
    let bounded = OnTrue_at c.if-has_bounded_raster_samples.true c.has_bounded_raster_samples.ensures in
    let same = take_rest bytes h.end in
    raw_planes_are bytes raster h _ same size bounded (ap (λ (l : List ℕ). separated h.colours (decoded h.max l)) (sym same))
