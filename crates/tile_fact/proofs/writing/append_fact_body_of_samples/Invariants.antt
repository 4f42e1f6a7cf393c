use Rattle.std.proofs.Common.{◌≡◌, ◌∷◌, ◌++◌, length, take}
use Rattle.std.specs.Int.{w32, to_be_bytes}
use Rattle.std.specs.List.{flat_map}
use Rattle.tile_fact.specs.FactFile.{number_bytes}
use Rattle.tile_fact.proofs.writing.append_fact_body_of_samples.Given as goal

abbrev pub invariant-loop-sample : goal.invariant-loop-sample
invariant-loop-sample l =
    l.bytes.items
    ≡ l.fn.bytes.items ++ (0 ∷ (to_be_bytes w32 (length l.samples) ++ flat_map (number_bytes w32) (take l.sample-index l.samples)))
