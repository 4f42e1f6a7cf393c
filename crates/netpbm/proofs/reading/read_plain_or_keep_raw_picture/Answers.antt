-- The header stands behind the place.
use Rattle.std.proofs.Common.{sym}
use Rattle.std.proofs.lemmas.Result.{err_from_is_err_and}
use Rattle.netpbm.proofs.KeptLaws.{rest_is, header_fault}
use Rattle.netpbm.proofs.reading.read_plain_or_keep_raw_picture.Goals as goal

pub returns-in_err-header : goal.returns-in_err-header
returns-in_err-header c =
    let p = err_from_is_err_and c.from_residual.result c.from_residual.ensures.1 in
    rw (p.1, p.2) (header_fault c.args.input.items _ c.args.start _ (rest_is c.args.input.items _ c.args.start c.deref.ensures.value)
    (sym c.in_err-header.ensures.read))
