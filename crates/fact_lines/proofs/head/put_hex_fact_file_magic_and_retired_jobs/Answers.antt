use Rattle.std.proofs.Common.{length}
use Rattle.tile_fact.proofs.LoopLaws.{some_left}
use Rattle.write_buffer.proofs.PassingLaws.{puts_err}
use Rattle.fact_lines.proofs.RecordLaws.{head_breaks, head_then}
use Rattle.fact_lines.proofs.head.put_hex_fact_file_magic_and_retired_jobs.Goals as goal

pub returns-in_err-put_hex_slices : goal.returns-in_err-put_hex_slices
returns-in_err-put_hex_slices g c =
    puts_err c.from_residual.result _ _ _ _ _ _ _ c.from_residual.ensures.0
    (head_breaks c.args.retired.now c.args.count _ _ _ _ _ _ (some_left (length c.args.retired.now) c.if-is_empty.ensures)
    c.to_be_bytes.ensures c.requires c.in_err-put_hex_slices.ensures)

pub returns-in_ok-put_hex_slices : goal.returns-in_ok-put_hex_slices
returns-in_ok-put_hex_slices g c =
    head_then c.put_hex_retired_job_ids_without_count.result c.args.retired.now c.args.count _ _ _ _ _ _ _ _ _ _
    (some_left (length c.args.retired.now) c.if-is_empty.ensures) c.to_be_bytes.ensures c.requires c.in_ok-put_hex_slices.ensures
    c.put_hex_retired_job_ids_without_count.ensures
