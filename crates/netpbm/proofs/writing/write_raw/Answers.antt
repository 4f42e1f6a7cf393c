-- The header, and the raster behind it; where a write fails, a part of them.
use Rattle.std.proofs.Common.{[], refl, sym, subst}
use Rattle.std.proofs.lemmas.List.{append-nil}
use Rattle.std.proofs.lemmas.Result.{on_ok_weaker, on_err_weaker}
use Rattle.std.specs.Io.KnownBytes.{Appends}
use Rattle.std.proofs.KnownBytes.{Appends-trans}
use Rattle.netpbm.specs.Colours.{interleaved}
use Rattle.netpbm.specs.Raw.{raw_raster}
use Rattle.netpbm.specs.Spelling.{header, spelling}
use Rattle.streams.specs.Streams.{AppendsPart}
use Rattle.netpbm.proofs.Written.{on_err}
use Rattle.streams.proofs.Appended.{AppendsPart-front, AppendsPart-next}
use Rattle.netpbm.proofs.writing.write_raw.Goals as goal

pub returns-in_err-write_all_bytes-clause-part : goal.returns-in_err-write_all_bytes-clause-part
returns-in_err-write_all_bytes-clause-part g c =
    let p = c.args.picture.now in
    let part = subst (AppendsPart _ _) c.encode_picture_header_into_buffer-header_len.ensures.written c.in_err-write_all_bytes.ensures.part in
    on_err c.from_residual.result _ (AppendsPart-front _ _ (header p) (raw_raster p.max (interleaved p.planes)) (spelling p) part refl)

pub returns-clause-ok : goal.returns-clause-ok
returns-clause-ok g c =
    let front = subst (Appends _ _) c.encode_picture_header_into_buffer-header_len.ensures.written c.in_ok-write_all_bytes.ensures.ok in
    on_ok_weaker c.write_raster.result (λ rest. Appends-trans _ _ _ _ _ front rest) c.write_raster.ensures.ok

pub returns-clause-part : goal.returns-clause-part
returns-clause-part g c =
    let p = c.args.picture.now in
    let front = subst (Appends _ _) c.encode_picture_header_into_buffer-header_len.ensures.written c.in_ok-write_all_bytes.ensures.ok in
    on_err_weaker c.write_raster.result (λ part. AppendsPart-next _ _ _ (header p) (raw_raster p.max (interleaved p.planes)) [] (spelling p)
    front part (sym (append-nil (spelling p)))) c.write_raster.ensures.part
