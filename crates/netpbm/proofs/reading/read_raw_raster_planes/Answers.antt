-- The raster has as many bytes as the picture wants.
use Rattle.std.proofs.Common.{◌≡◌, ◌-◌, ◌*◌, ℕ, length, take, drop, subst}
use Rattle.std.proofs.lemmas.List.{take_rest}
use Rattle.netpbm.specs.Raw.{width_of}
use Rattle.netpbm.proofs.RawReads.{whole_number}
use Rattle.netpbm.proofs.ReadLaws.{raw_planes_are}
use Rattle.netpbm.proofs.reading.read_raw_raster_planes.Goals as goal

pub decode_raw_planes_if_bounded-requires-clause-whole : goal.decode_raw_planes_if_bounded-requires-clause-whole
decode_raw_planes_if_bounded-requires-clause-whole c =
    let h = c.args.header.now in
    let bytes = c.args.bytes.now in
    let raster = take (length bytes - h.end) (drop h.end bytes) in
    let count = h.colours * c.count_samples_per_plane-area.result in
    whole_number raster h.max count (subst (λ (w : ℕ). length raster ≡ count * w) c.count_bytes_per_raw_sample.ensures c.if-raster-count.true)

pub returns-in-Some : goal.returns-in-Some
returns-in-Some c =
    let h = c.args.header.now in
    let bytes = c.args.bytes.now in
    let raster = take (length bytes - h.end) (drop h.end bytes) in
    let area = c.count_samples_per_plane-area in
    let many =
    subst (λ (w : ℕ). length raster ≡ (h.colours * area.result) * w) c.count_bytes_per_raw_sample.ensures c.if-raster-count.true in
    let size = subst (λ (area : ℕ). length raster ≡ (h.colours * area) * width_of h.max) area.ensures.value many in
    raw_planes_are bytes raster h _ (take_rest bytes h.end) size c.in-Some.ensures.bounded c.in-Some.ensures.planes
