-- Through the steps of reading.
use Rattle.std.proofs.Common.{sym, arith}
use Rattle.std.proofs.lemmas.Result.{err_from_is_err_and}
use Rattle.netpbm.proofs.ReadLaws.{header_fails, planes_fail, reads, is_picture}
use Rattle.netpbm.proofs.reading.read_picture.Goals as goal

pub returns-in_err-header : goal.returns-in_err-header
returns-in_err-header c =
    let p = err_from_is_err_and c.from_residual.result c.from_residual.ensures.1 in
    rw (p.1, p.2) (header_fails c.args.bytes.now _ (sym c.in_err-header.ensures.read))

pub returns-in_err-planes : goal.returns-in_err-planes
returns-in_err-planes c =
    let p = err_from_is_err_and c.from_residual-in_err-planes.result c.from_residual-in_err-planes.ensures.1 in
    rw (p.1, p.2) (planes_fail c.args.bytes.now c.in_ok-header.header _ (sym c.in_ok-header.ensures.read) c.in_err-planes.ensures)

pub from_valid_planes-requires : goal.from_valid_planes-requires
from_valid_planes-requires c =
    let read = reads c.args.bytes.now c.in_ok-header.header _ (sym c.in_ok-header.ensures.read) c.in_ok-planes.ensures in
    (is_picture c.args.bytes.now _ (λ i. omega (arith, c.type_inv.bytes i)) read).image

pub returns : goal.returns
returns c =
    let read = reads c.args.bytes.now c.in_ok-header.header _ (sym c.in_ok-header.ensures.read) c.in_ok-planes.ensures in
    rw c.from_valid_planes.ensures read
