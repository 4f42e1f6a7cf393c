use Rattle.std.proofs.lemmas.Result.{IfErr-weaker, err_from_is_err_and}
use Rattle.command_inputs.specs.Faults.{HasShortText}
use Rattle.command_inputs.proofs.MemoryRefusals.{only_if, short_of_input}
use Rattle.farm_commands.proofs.FarmRuns.{run_on_input}
use Rattle.farm_commands.proofs.RunFaults.{fault_of_farm, fault_of_input}
use Rattle.farm_commands.proofs.stream.compute_farm_result_of_input.Goals as goal

pub returns-in_err-job-clause-fault : goal.returns-in_err-job-clause-fault
returns-in_err-job-clause-fault g c =
    let p = err_from_is_err_and c.from_residual.result c.from_residual.ensures.1 in
    rw (p.1, p.2) (fault_of_input c.args.input.items c.args.given.now c.args.options.now.sides c.in_err-job.field-0.0
    c.in_err-job.ensures.fault)

pub returns-clause-run : goal.returns-clause-run
returns-clause-run g c =
    let read = c.in_ok-job.ensures in
    run_on_input c.args.setup.now c.args.options.now c.args.given.now c.args.input.items c.in_ok-job.job c.compute_farm_result_of_job.result
    read.of_input read.job c.compute_farm_result_of_job.ensures.reply c.compute_farm_result_of_job.ensures.run

pub returns-clause-fault : goal.returns-clause-fault
returns-clause-fault g c =
    IfErr-weaker c.compute_farm_result_of_job.result _ _
    (λ f is. fault_of_farm c.args.input.items c.args.given.now c.args.options.now.sides c.in_ok-job.job f c.in_ok-job.ensures.of_input is)
    c.compute_farm_result_of_job.ensures.fault

pub returns-in_err-job-clause-memory : goal.returns-in_err-job-clause-memory
returns-in_err-job-clause-memory g c =
    let p = err_from_is_err_and c.from_residual.result c.from_residual.ensures.1 in
    rw (p.1, p.2) c.in_err-job.ensures.memory

pub returns-clause-memory : goal.returns-clause-memory
returns-clause-memory g c =
    let read = c.in_ok-job.ensures.of_input in
    let of_input = read.of_input in
    IfErr-weaker c.compute_farm_result_of_job.result _ _
    (λ f is. only_if (HasShortText c.args.input.items)
    (short_of_input c.args.input.items read.tree of_input.tables of_input.source of_input.read) f)
    c.compute_farm_result_of_job.ensures.fault
