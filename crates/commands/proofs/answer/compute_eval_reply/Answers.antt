use Rattle.std.proofs.Common.{subst}
use Rattle.accumulators.specs.Answers.{IsEvaluationFault}
use Rattle.job.specs.Kept.{pipeline_in, program_id_in}
use Rattle.commands.proofs.Fitting.{never_too_big}
use Rattle.commands.proofs.answer.compute_eval_reply.Goals as goal

pub unreachable-requires : goal.unreachable-requires
unreachable-requires g c =
    let job = c.args.job.now in
    let schedule = c.in_ok-schedule.schedule in
    never_too_big (program_id_in job) (pipeline_in job) schedule _ c.in_ok-schedule.ensures.schedule c.in_ok-schedule.ensures.fits
    (subst (IsEvaluationFault (program_id_in job) (pipeline_in job) schedule.inlining)
    c.in-Err-ScratchTooBig.field-0-is c.in-Err-ScratchTooBig.ensures.fault)
