-- What the hasher holds, and what is left, is the message with all parameters.
use Rattle.std.proofs.Common.{ℕ, List, ◌≡◌, ◌++◌, map, drop}
use Rattle.std.specs.List.{flat_map}
use Rattle.job.specs.Identity.{parameter_bytes}
use Rattle.job.specs.Views.{parameter_view}
use Rattle.job.proofs.hashing.hash_input_parameters.Given as goal

abbrev pub invariant-loop-parameter : goal.invariant-loop-parameter
invariant-loop-parameter g l =
    (m : List ℕ) → g.D.Digest.holds l.fn.hasher m
    → (held : List ℕ) × g.D.Digest.holds l.hasher held
    × (held ++ flat_map parameter_bytes (map parameter_view (drop l.parameter-index l.parameters))
    ≡ m ++ flat_map parameter_bytes (map parameter_view l.parameters))
