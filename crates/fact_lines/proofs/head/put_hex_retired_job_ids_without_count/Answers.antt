use Rattle.std.proofs.Common.{arith}
use Rattle.hex.specs.Hex.{encode_lower}
use Rattle.tile_fact.specs.FactFile.{ids_bytes}
use Rattle.write_buffer.proofs.PassingLaws.{breaks_more, passes_more, puts_err}
use Rattle.fact_lines.proofs.head.put_hex_retired_job_ids_without_count.Goals as goal

pub returns-in_err-put_hex_retired_job_id : goal.returns-in_err-put_hex_retired_job_id
returns-in_err-put_hex_retired_job_id g c =
    puts_err c.from_residual.result _ _ _ _ _ _ _ c.from_residual.ensures.0
    (breaks_more (λ job. encode_lower (ids_bytes job)) c.args.jobs.now c.loop-job.job-index _ _ _ _ _ _ _ _ _ (omega arith)
    c.loop-job.invariant (rw c.job-item.is at c.in_err-put_hex_retired_job_id.ensures))

pub loop-job-preserved : goal.loop-job-preserved
loop-job-preserved g c =
    passes_more (λ job. encode_lower (ids_bytes job)) c.args.jobs.now c.loop-job.job-index _ _ _ _ _ _ _ _ _ _ (omega arith)
    c.loop-job.invariant (rw c.job-item.is at c.in_ok-put_hex_retired_job_id.ensures)
