use Rattle.std.proofs.Common.{FitsSigned, take}
use Rattle.std.specs.Int.{w64}
use Rattle.std.specs.List.{All}
use Rattle.tile_fact.proofs.laws.fact_bins_fit_64_bits.Given as goal

abbrev pub invariant-loop-bin : goal.invariant-loop-bin
invariant-loop-bin l = All (FitsSigned w64) (take l.bin-index l.bins)
