use Rattle.std.proofs.Common.{◌≡◌, ◌++◌, length}
use Rattle.std.specs.Int.{w64}
use Rattle.tile_fact.specs.Numbers.{numbers_in}
use Rattle.tile_fact.proofs.number_bytes.decode_fact_bins.Given as goal

-- those so far and those of what is left are all
abbrev pub invariant-loop-rest : goal.invariant-loop-rest
invariant-loop-rest l = l.bins.items ++ numbers_in w64 l.rest ≡ numbers_in w64 l.bytes

abbrev pub decreases-loop-rest : goal.decreases-loop-rest
decreases-loop-rest l = length l.rest
