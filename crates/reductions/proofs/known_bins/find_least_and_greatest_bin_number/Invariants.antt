use Rattle.std.proofs.Common.{◌≡◌, drop}
use Rattle.std.specs.Prelude.{fold}
use Rattle.std.specs.Int.{int_min, int_max}
use Rattle.reductions.proofs.known_bins.find_least_and_greatest_bin_number.Given as goal

-- what was found so far, and the numbers that are left
abbrev pub invariant-loop-k : goal.invariant-loop-k
invariant-loop-k l = record {
  least : fold int_min l.least (drop l.k l.bins_of) ≡ fold int_min l.first l.bins_of;
  greatest : fold int_max l.greatest (drop l.k l.bins_of) ≡ fold int_max l.first l.bins_of;
}
