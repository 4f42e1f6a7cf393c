-- No byte before the place is above the greatest sample.
use Rattle.std.proofs.Common.{◌≤◌, rules}
use Rattle.std.proofs.lemmas.List.Elements.{All-from_get_or}
use Rattle.netpbm.proofs.RawReads.{none_big, some_big}
use Rattle.netpbm.proofs.raw_raster.find_first_raster_byte_above.Goals as goal

pub returns-then-from-max-clause-place : goal.returns-then-from-max-clause-place
returns-then-from-max-clause-place c = some_big c.args.max c.args.raster.now c.loop-i.i (search rules) c.loop-i.invariant (search rules)

pub returns-clause-none : goal.returns-clause-none
returns-clause-none c =
    none_big c.args.max c.args.raster.now
    (All-from_get_or (λ s. s ≤ c.args.max) c.args.raster.now 0 (λ k lt. c.loop-i.invariant k (search rules)))
