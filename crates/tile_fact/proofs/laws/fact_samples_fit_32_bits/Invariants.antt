use Rattle.std.proofs.Common.{FitsSigned, take}
use Rattle.std.specs.Int.{w32}
use Rattle.std.specs.List.{All}
use Rattle.tile_fact.proofs.laws.fact_samples_fit_32_bits.Given as goal

abbrev pub invariant-loop-sample : goal.invariant-loop-sample
invariant-loop-sample l = All (FitsSigned w32) (take l.sample-index l.samples)
