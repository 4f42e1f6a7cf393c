use Rattle.std.proofs.Common.{◌≡◌, ◌++◌, length}
use Rattle.std.specs.Int.{w32}
use Rattle.tile_fact.specs.Numbers.{numbers_in}
use Rattle.tile_fact.proofs.number_bytes.decode_fact_samples.Given as goal

-- those so far and those of what is left are all
abbrev pub invariant-loop-rest : goal.invariant-loop-rest
invariant-loop-rest l = l.samples.items ++ numbers_in w32 l.rest ≡ numbers_in w32 l.bytes

abbrev pub decreases-loop-rest : goal.decreases-loop-rest
decreases-loop-rest l = length l.rest
