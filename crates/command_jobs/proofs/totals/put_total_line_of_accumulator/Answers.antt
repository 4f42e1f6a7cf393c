use Rattle.std.proofs.Common.{◌++◌, ap, ◌∙◌}
use Rattle.std.specs.List.{flat_map}
use Rattle.command_jobs.specs.Results.{bin_text, ends_text}
use Rattle.command_jobs.proofs.TotalLines.{in_turn}
use Rattle.command_jobs.proofs.totals.put_total_line_of_accumulator.Goals as goal

pub returns : goal.returns
returns c =
    let named = c.in_ok-extend_from_slice.ensures.items ∙ ap (λ bs. c.args.lines.now.items ++ bs) c.as_bytes.ensures.bytes in
    in_turn c.args.lines.now.items c.args.name.now (ends_text c.args.span.now) (flat_map bin_text c.args.bins.now) _ _ _ _ named
    c.in_ok-put_total_line_bin_ends.ensures c.in_ok-put_total_line_bin_values.ensures c.in_ok-push.ensures.items
