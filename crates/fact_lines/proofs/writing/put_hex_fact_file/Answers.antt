use Rattle.tile_fact.specs.FactFile.{head_of, records_of}
use Rattle.write_buffer.proofs.HexLaws.{breaks_digits_front, puts_digits_then}
use Rattle.write_buffer.proofs.PassingLaws.{puts_err}
use Rattle.fact_lines.proofs.writing.put_hex_fact_file.Goals as goal

pub returns-in_err-put_hex_fact_file_magic_and_retired_jobs : goal.returns-in_err-put_hex_fact_file_magic_and_retired_jobs
returns-in_err-put_hex_fact_file_magic_and_retired_jobs g c =
    puts_err c.from_residual.result _ _ _ _ _ _ _ c.from_residual.ensures.0
    (breaks_digits_front (head_of c.args.retired.now) (records_of c.args.facts.now) _ _ _ _ _ c.in_err-put_hex_fact_file_magic_and_retired_jobs.ensures)

pub returns : goal.returns
returns g c =
    puts_digits_then c.put_hex_fact_count_and_records.result (head_of c.args.retired.now) (records_of c.args.facts.now) _ _ _ _ _ _ _ _ _
    c.in_ok-put_hex_fact_file_magic_and_retired_jobs.ensures c.put_hex_fact_count_and_records.ensures
