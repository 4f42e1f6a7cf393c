use Rattle.std.proofs.Common.{◌≡◌, ◌++◌, drop}
use Rattle.std.specs.List.{flat_map}
use Rattle.command_jobs.specs.Results.{bin_text}
use Rattle.command_jobs.proofs.totals.put_total_line_bin_values.Given as goal

abbrev pub invariant-loop-bin : goal.invariant-loop-bin
invariant-loop-bin l = l.lines.items ++ flat_map bin_text (drop l.bin-index l.bins) ≡ l.fn.lines.items ++ flat_map bin_text l.bins
