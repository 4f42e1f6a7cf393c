use Rattle.job.specs.Kept.{pipeline_in}
use Rattle.command_jobs.proofs.TotalLines.{answer_bytes}
use Rattle.command_jobs.proofs.result_reply.make_result_reply.Goals as goal

pub returns : goal.returns
returns c =
    answer_bytes (pipeline_in c.args.job.now) c.args.answer c.as_slice.result.now c.in_ok-lines.lines.items c.requires
    c.as_slice.ensures.value c.in_ok-lines.ensures
