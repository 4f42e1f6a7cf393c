use Rattle.std.proofs.Common.{arith}
use Rattle.gossip_events.proofs.PlaceLaws.{no_column}
use Rattle.gossip_events.proofs.place.parse_script_tile_name_parts.Goals as goal

pub returns-in_err-parse_script_number-3-clause-none : goal.returns-in_err-parse_script_number-3-clause-none
returns-in_err-parse_script_number-3-clause-none c =
    rw (c.from_residual-in_err-parse_script_number-3.ensures)
    (λ place. no_column c.args.parts.now _ place (omega (arith, c.in-len4.len_at_least, c.in-len4.len_below))
    c.in_err-parse_script_number-3.ensures.none)
