use Rattle.std.proofs.Common.{◌≡◌, ◌∷◌, ◌++◌, length, take}
use Rattle.std.specs.Int.{w32, w64, to_be_bytes}
use Rattle.std.specs.List.{flat_map}
use Rattle.tile_fact.specs.FactFile.{number_bytes}
use Rattle.tile_fact.proofs.writing.append_fact_body_of_bins.Given as goal

abbrev pub invariant-loop-bin : goal.invariant-loop-bin
invariant-loop-bin l =
    l.bytes.items ≡ l.fn.bytes.items ++ (1 ∷ (to_be_bytes w32 (length l.bins) ++ flat_map (number_bytes w64) (take l.bin-index l.bins)))
