use Rattle.std.proofs.Common.{◌≡◌, ◌++◌, length, take}
use Rattle.std.specs.Int.{w32, to_be_bytes}
use Rattle.std.specs.List.{flat_map}
use Rattle.tile_fact.specs.FactFile.{ids_bytes}
use Rattle.tile_fact.proofs.writing.append_encoded_retired_jobs.Given as goal

abbrev pub invariant-loop-job : goal.invariant-loop-job
invariant-loop-job l =
    l.bytes.items ≡ l.fn.bytes.items ++ (to_be_bytes w32 (length l.jobs) ++ flat_map ids_bytes (take l.job-index l.jobs))
