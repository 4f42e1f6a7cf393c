use Rattle.write_buffer.proofs.PassingLaws.{puts_err}
use Rattle.fact_lines.proofs.RecordLaws.{label_breaks, puts_bins, puts_samples}
use Rattle.fact_lines.proofs.records.put_hex_fact_record.Goals as goal

pub returns-in_err-put_hex_fact_record_key_kind_and_count : goal.returns-in_err-put_hex_fact_record_key_kind_and_count
returns-in_err-put_hex_fact_record_key_kind_and_count g c =
    puts_err c.from_residual.result _ _ _ _ _ _ _ c.from_residual.ensures.0
    (label_breaks c.args.fact.now _ _ _ _ _ c.in_err-put_hex_fact_record_key_kind_and_count.ensures)

pub returns-in-Tile : goal.returns-in-Tile
returns-in-Tile g c =
    puts_samples c.put_hex_fact_samples.result c.args.fact.now _ _ _ _ _ _ _ _ _ _ (cc) c.in_ok-put_hex_fact_record_key_kind_and_count.ensures c.put_hex_fact_samples.ensures

pub returns-in-Partial : goal.returns-in-Partial
returns-in-Partial g c =
    puts_bins c.put_hex_fact_bins.result c.args.fact.now _ _ _ _ _ _ _ _ _ _ (cc) c.in_ok-put_hex_fact_record_key_kind_and_count.ensures c.put_hex_fact_bins.ensures
