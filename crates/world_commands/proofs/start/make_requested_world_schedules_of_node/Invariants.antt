use Rattle.std.proofs.Common.{◌≡◌, map, take}
use Rattle.world_commands.specs.WorldSayings.{inlinings}
use Rattle.world_commands.proofs.start.make_requested_world_schedules_of_node.Given as goal

abbrev pub invariant-loop-index : goal.invariant-loop-index
invariant-loop-index l =
    map (λ s. s.inlining) l.schedules.items ≡ inlinings l.options.stored l.options.percent (take l.index l.catalog)
