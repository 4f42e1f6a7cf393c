use Rattle.std.proofs.Common.{◌≡◌, ◌++◌}
use Rattle.std.specs.List.{flat_map, range_with_len}
use Rattle.job.specs.Kept.{pipeline_in}
use Rattle.commands.specs.Listing.{stage_line_at}
use Rattle.commands.proofs.stage_lines.put_check_lines_of_stages.Given as goal

abbrev pub invariant-loop-number : goal.invariant-loop-number
invariant-loop-number l = l.lines.items ≡ l.fn.lines.items ++ flat_map (stage_line_at (pipeline_in l.job)) (range_with_len 0 l.number)
