-- No pair before the place is above the greatest sample.
use Rattle.std.proofs.Common.{arith, rules}
use Rattle.netpbm.proofs.Rasters.{length-pairs}
use Rattle.netpbm.proofs.RawReads.{none_big, pairs_bounded, big_pair}
use Rattle.netpbm.proofs.raw_raster.find_first_raster_pair_above.Goals as goal

pub returns-then-from-max-clause-place : goal.returns-then-from-max-clause-place
returns-then-from-max-clause-place c = big_pair c.args.max c.args.raster.now c.loop-i.i (search rules) c.loop-i.invariant (search rules)

pub returns-then-from-max-clause-within : goal.returns-then-from-max-clause-within
returns-then-from-max-clause-within c = omega (arith, length-pairs c.args.raster.now)

pub returns-clause-none : goal.returns-clause-none
returns-clause-none c = none_big c.args.max _ (pairs_bounded c.args.max c.args.raster.now (λ k lt. c.loop-i.invariant k (search rules)))
