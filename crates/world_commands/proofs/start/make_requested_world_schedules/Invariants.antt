use Rattle.std.proofs.Common.{◌≡◌, replicate}
use Rattle.world_commands.specs.WorldSayings.{inlinings}
use Rattle.world_commands.proofs.start.make_requested_world_schedules.Given as goal

abbrev pub invariant-loop : goal.invariant-loop
invariant-loop l = l.schedules.items ≡ replicate l.counter (inlinings l.options.stored l.options.percent l.catalog)
