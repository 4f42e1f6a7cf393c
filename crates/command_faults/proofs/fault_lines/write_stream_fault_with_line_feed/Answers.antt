use Rattle.std.proofs.Common.{[], ◌∷◌}
use Rattle.command_faults.specs.FaultLines.{text_of}
use Rattle.command_faults.proofs.Taken.{part_front, takes_err, takes_then}
use Rattle.command_faults.proofs.fault_lines.write_stream_fault_with_line_feed.Goals as goal

pub returns-in_err-write_stream_fault_without_line_feed : goal.returns-in_err-write_stream_fault_without_line_feed
returns-in_err-write_stream_fault_without_line_feed g c =
    takes_err c.from_residual.result _ _ _ _ _ c.from_residual.ensures.0
    (part_front (text_of c.args.fault.now) (10 ∷ []) _ _ _ _ c.in_err-write_stream_fault_without_line_feed.ensures)

pub returns : goal.returns
returns g c =
    takes_then c.write_text_in_fault_line.result (text_of c.args.fault.now) (10 ∷ []) _ _ _ _ _ _ c.in_ok-write_stream_fault_without_line_feed.ensures c.write_text_in_fault_line.ensures
