-- No pair is above the greatest of them.
use Rattle.std.proofs.Common.{◌≤◌, ◌<◌, arith, rules}
use Rattle.std.proofs.lemmas.Bool.{OnTrue_from, leb-true}
use Rattle.netpbm.proofs.RawReads.{pairs_bounded}
use Rattle.netpbm.proofs.raw_bounds.has_bounded_raster_pairs.Goals as goal

pub returns : goal.returns
returns c = OnTrue_from _ _ (λ e.
    let top : c.loop-i.greatest ≤ c.args.max = leb-true c.loop-i.greatest c.args.max e in
    pairs_bounded c.args.max c.args.raster.now (λ k lt.
    let so_far : k < c.loop-i.i = search rules in
    omega (arith, c.loop-i.invariant k so_far, top)))
