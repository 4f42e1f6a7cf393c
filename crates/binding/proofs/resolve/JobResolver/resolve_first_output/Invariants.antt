use Rattle.std.proofs.Common.{◌≡◌, drop}
use Rattle.std.specs.List.{flat_map}
use Rattle.pipe_tree.specs.Tree.{declarations}
use Rattle.binding.specs.Binding.{item_outputs}
use Rattle.binding.specs.inside.Resolving.{program_in}
use Rattle.binding.proofs.resolve.JobResolver.resolve_first_output.Given as goal

abbrev pub invariant-loop-item : goal.invariant-loop-item
invariant-loop-item l =
    flat_map (item_outputs (program_in l.self)) (declarations (drop l.item-index l.items))
    ≡ flat_map (item_outputs (program_in l.self)) (declarations l.items)
