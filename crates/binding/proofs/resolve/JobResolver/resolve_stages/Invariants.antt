use Rattle.std.proofs.Common.{◌≡◌, ◌++◌, map, drop}
use Rattle.std.specs.List.{flat_map}
use Rattle.pipe_tree.specs.Tree.{declarations}
use Rattle.binding.specs.Binding.{item_stages}
use Rattle.job.specs.Views.{stage_view}
use Rattle.binding.specs.inside.Resolving.{program_in}
use Rattle.binding.proofs.resolve.JobResolver.resolve_stages.Given as goal

abbrev pub invariant-loop-item : goal.invariant-loop-item
invariant-loop-item l =
    map stage_view l.stages.items ++ flat_map (item_stages (program_in l.self)) (declarations (drop l.item-index l.items))
    ≡ flat_map (item_stages (program_in l.self)) (declarations l.items)
