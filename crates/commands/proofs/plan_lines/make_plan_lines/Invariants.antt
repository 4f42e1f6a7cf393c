use Rattle.std.proofs.Common.{◌≡◌}
use Rattle.std.specs.List.{flat_map, range_with_len}
use Rattle.job.specs.Kept.{pipeline_in}
use Rattle.commands.specs.Planning.{plan_line_at}
use Rattle.commands.proofs.plan_lines.make_plan_lines.Given as goal

abbrev pub invariant-loop-number : goal.invariant-loop-number
invariant-loop-number l = l.lines.items ≡ flat_map (plan_line_at (pipeline_in l.job) l.schedule.inlining) (range_with_len 0 l.number)
