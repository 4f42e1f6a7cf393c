use Rattle.std.proofs.Common.{◌≡◌, ◌++◌, length, take}
use Rattle.std.specs.Int.{w32, to_be_bytes}
use Rattle.std.specs.List.{flat_map}
use Rattle.tile_fact.specs.FactFile.{head_of, fact_record}
use Rattle.tile_fact.proofs.writing.encode.Given as goal

abbrev pub invariant-loop-fact : goal.invariant-loop-fact
invariant-loop-fact l =
    l.bytes.items ≡ head_of l.retired ++ (to_be_bytes w32 (length l.facts) ++ flat_map fact_record (take l.fact-index l.facts))
