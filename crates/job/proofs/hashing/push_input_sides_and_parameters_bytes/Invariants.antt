-- What is there so far, and what is left, is the whole.
use Rattle.std.proofs.Common.{◌≡◌, ◌++◌, map, drop}
use Rattle.std.specs.List.{flat_map}
use Rattle.job.specs.Identity.{given_bytes, parameter_bytes}
use Rattle.job.specs.Views.{parameter_view, pipeline_of}
use Rattle.job.proofs.hashing.push_input_sides_and_parameters_bytes.Given as goal

abbrev pub invariant-loop-parameter : goal.invariant-loop-parameter
invariant-loop-parameter l =
    l.bytes.items ++ flat_map parameter_bytes (map parameter_view (drop l.parameter-index l.parts.params.items))
    ≡ l.fn.bytes.items ++ given_bytes (pipeline_of l.parts)
