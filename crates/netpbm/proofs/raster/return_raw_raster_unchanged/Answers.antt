-- Each byte is written as it was read.
use Rattle.std.proofs.Common.{sym, arith}
use Rattle.netpbm.proofs.KeptLaws.{written_back}
use Rattle.netpbm.proofs.raster.return_raw_raster_unchanged.Goals as goal

pub returns : goal.returns
returns c =
    let a = c.args in
    sym (written_back a.max a.area a.colours a.raster.now (λ i. omega (arith, c.type_inv.raster i)) c.requires.colours c.requires.whole)
