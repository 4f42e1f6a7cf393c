use Rattle.std.proofs.Common.{[]}
use Rattle.std.specs.Option.{option_map_or}
use Rattle.netpbm.specs.Spelling.{spelling}
use Rattle.command_faults.proofs.Taken.{part_front, takes_err, takes_of, takes_then}
use Rattle.command_outcomes.proofs.reply.write_job_reply.Goals as goal

pub returns-in_err-write_job_reply_picture_if_any : goal.returns-in_err-write_job_reply_picture_if_any
returns-in_err-write_job_reply_picture_if_any g c =
    let reply = c.args.reply.now in
    takes_err c.from_residual.result _ _ _ _ _ c.from_residual.ensures.0
    (part_front (option_map_or spelling reply.picture []) reply.lines.items _ _ _ _ c.in_err-write_job_reply_picture_if_any.ensures)

pub returns : goal.returns
returns g c =
    let reply = c.args.reply.now in
    let wrote = c.write_all_bytes.ensures in
    takes_then c.write_all_bytes.result (option_map_or spelling reply.picture []) reply.lines.items _ _ _ _ _ _
    c.in_ok-write_job_reply_picture_if_any.ensures
    (rw c.as_slice.ensures.value at (takes_of c.write_all_bytes.result _ _ _ _ _ wrote.ok wrote.part wrote.failed))
