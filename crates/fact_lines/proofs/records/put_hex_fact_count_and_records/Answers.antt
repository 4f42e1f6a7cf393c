use Rattle.std.proofs.Common.{◌∙◌, ap, length}
use Rattle.std.specs.Int.{w32, to_be_bytes}
use Rattle.tile_fact.specs.FactFile.{fact_record}
use Rattle.write_buffer.proofs.PassingLaws.{puts_err}
use Rattle.fact_lines.proofs.RecordLaws.{counted_breaks, counted_then}
use Rattle.fact_lines.proofs.records.put_hex_fact_count_and_records.Goals as goal

pub returns-in_err-put_hex : goal.returns-in_err-put_hex
returns-in_err-put_hex g c =
    let same = c.to_be_bytes.ensures ∙ ap (to_be_bytes w32) c.requires in
    puts_err c.from_residual.result _ _ _ _ _ _ _ c.from_residual.ensures.0
    (counted_breaks fact_record c.to_be_bytes.result (to_be_bytes w32 (length c.args.facts.now)) c.args.facts.now _ _ _ _ _ same
    c.in_err-put_hex.ensures)

pub returns : goal.returns
returns g c =
    let same = c.to_be_bytes.ensures ∙ ap (to_be_bytes w32) c.requires in
    counted_then c.put_hex_fact_records.result fact_record c.to_be_bytes.result (to_be_bytes w32 (length c.args.facts.now)) c.args.facts.now
    _ _ _ _ _ _ _ _ _ same c.in_ok-put_hex.ensures c.put_hex_fact_records.ensures
