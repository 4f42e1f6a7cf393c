-- What reading gives of the part of the input behind the place.
use Rattle.std.proofs.lemmas.Result.{err_from_is_err_and}
use Rattle.netpbm.proofs.KeptLaws.{rest_is, raster_fault, is_there}
use Rattle.netpbm.proofs.reading.read_raw_picture_in_place.Goals as goal

pub returns-in_err-check_raw_raster_after_header : goal.returns-in_err-check_raw_raster_after_header
returns-in_err-check_raw_raster_after_header c =
    let a = c.args in
    let p = err_from_is_err_and c.from_residual.result c.from_residual.ensures.1 in
    let same = rest_is a.input.items _ a.start c.deref.ensures.value in
    rw (p.1, p.2) (raster_fault a.input.items _ a.start a.header.now same c.requires.read c.requires.raw _
    c.in_err-check_raw_raster_after_header.ensures.fault)

pub from_valid_kept_raster-requires-clause-image : goal.from_valid_kept_raster-requires-clause-image
from_valid_kept_raster-requires-clause-image c =
    let a = c.args in
    let same = rest_is a.input.items _ a.start c.deref.ensures.value in
    (is_there a.input.items _ a.start a.header.now same c.requires.read c.requires.raw c.requires.bytes c.in_ok-check_raw_raster_after_header.ensures.ok).whole

pub returns : goal.returns
returns c =
    let a = c.args in
    let same = rest_is a.input.items _ a.start c.deref.ensures.value in
    let there = is_there a.input.items _ a.start a.header.now same c.requires.read c.requires.raw c.requires.bytes c.in_ok-check_raw_raster_after_header.ensures.ok in
    rw c.from_valid_kept_raster.ensures there.read
