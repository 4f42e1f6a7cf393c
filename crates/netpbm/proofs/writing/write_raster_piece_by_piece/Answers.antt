-- Some pixels more; where a write fails, a part of them.
use Rattle.std.proofs.Common.{◌*◌, refl, subst, arith, rules}
use Rattle.std.specs.Io.KnownBytes.{Appends}
use Rattle.std.proofs.KnownBytes.{Appends-trans}
use Rattle.netpbm.specs.Colours.{interleaved}
use Rattle.netpbm.specs.Pixels.{pixels}
use Rattle.netpbm.specs.Raw.{raw_raster}
use Rattle.streams.specs.Streams.{AppendsPart}
use Rattle.netpbm.proofs.Written.{raster_to, raster_none, raster_more, raster_all, raster_parts, Appends_nothing, on_err}
use Rattle.streams.proofs.Appended.{AppendsPart-next}
use Rattle.netpbm.proofs.writing.write_raster_piece_by_piece.Goals as goal

pub loop-done-init : goal.loop-done-init
loop-done-init g c = (
  omega arith,
  subst (Appends _ _) (raster_none c.args.picture.now c.area-area.ensures.image) (Appends_nothing (g.W.Sink.contents c.args.writer.now)),
  refl,
)

pub returns-in_err-write_all_bytes-clause-part : goal.returns-in_err-write_all_bytes-clause-part
returns-in_err-write_all_bytes-clause-part g c =
    let p = c.args.picture.now in
    let done = c.loop-done.done in
    let end = c.encode_next_pixels_into_buffer-end.result.0 in
    let part = subst (AppendsPart _ _) c.encode_next_pixels_into_buffer-end.ensures.written c.in_err-write_all_bytes.ensures.part in
    on_err c.from_residual.result _
    (AppendsPart-next _ _ _ (raster_to done p) (raw_raster p.max (pixels done end p.planes))
    (raw_raster p.max (pixels end (p.rows * p.cols) p.planes)) (raw_raster p.max (interleaved p.planes)) c.loop-done.invariant.1 part
    (raster_parts p done end c.area-area.ensures.image (search rules) (search rules)))

pub loop-done-preserved : goal.loop-done-preserved
loop-done-preserved g c =
    let p = c.args.picture.now in
    let done = c.loop-done.done in
    let end = c.encode_next_pixels_into_buffer-end.result.0 in
    let piece = subst (Appends _ _) c.encode_next_pixels_into_buffer-end.ensures.written c.in_ok-write_all_bytes.ensures.ok in
    let more = raster_more p done end c.area-area.ensures.image (search rules) (search rules) in
    (search rules, subst (Appends _ _) more (Appends-trans _ _ _ _ _ c.loop-done.invariant.1 piece), search rules)

pub returns-clause-ok : goal.returns-clause-ok
returns-clause-ok g c =
    subst (Appends _ _) (raster_all c.args.picture.now c.loop-done.done c.area-area.ensures.image (search rules)) c.loop-done.invariant.1
