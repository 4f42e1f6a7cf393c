use Rattle.std.proofs.Common.{List, ℕ, subst}
use Rattle.std.proofs.lemmas.Result.{err_from_is_err_and}
use Rattle.job.specs.Kept.{pipeline_in}
use Rattle.command_faults.specs.StepFaults.{fault_at_lines}
use Rattle.command_inputs.specs.Faults.{HasShortTextInThree, IsFaultAround, IsMemoryOnlyIf}
use Rattle.command_inputs.specs.Input.{IsReadAround}
use Rattle.command_inputs.proofs.MemoryRefusals.{only_if, short_of_input_in_three}
use Rattle.fact_commands.proofs.Faults.{audit_facts_fault, audit_fault_around}
use Rattle.fact_commands.proofs.fact_input.read_job_and_facts_of_audit_input.Goals as goal

pub returns-in_err-job-clause-fault : goal.returns-in_err-job-clause-fault
returns-in_err-job-clause-fault c =
    let p = err_from_is_err_and c.from_residual.result c.from_residual.ensures.1 in
    let fault = c.in_err-job.field-0.0 in
    rw (p.1, p.2) (audit_fault_around c.args.input.items c.args.given.now c.args.sides fault
    (subst (λ (input : List ℕ). IsFaultAround input c.args.given.now c.args.sides fault) c.as_slice.ensures.value
    c.in_err-job.ensures.fault))

pub returns-in_err-contents-clause-fault : goal.returns-in_err-contents-clause-fault
returns-in_err-contents-clause-fault c =
    let p = err_from_is_err_and c.from_residual-in_err-contents.result c.from_residual-in_err-contents.ensures.1 in
    let read =
    subst (λ (input : List ℕ). IsReadAround input c.args.given.now c.args.sides c.in_ok-job.job c.in_ok-job.middle.now)
    c.as_slice.ensures.value c.in_ok-job.ensures.of_input in
    rw (p.1, p.2) (audit_facts_fault c.args.input.items c.in_ok-job.middle.now c.args.given.now c.args.sides read.tree
    (pipeline_in c.in_ok-job.job) c.in_err-contents.field-0.0 read.of_input c.in_err-contents.ensures.fault)

pub returns-clause-of_input : goal.returns-clause-of_input
returns-clause-of_input c =
    let read =
    subst (λ (input : List ℕ). IsReadAround input c.args.given.now c.args.sides c.in_ok-job.job c.in_ok-job.middle.now)
    c.as_slice.ensures.value c.in_ok-job.ensures.of_input in
    record {
      tree = read.tree;
      of_input = record { lines = c.in_ok-job.middle.now; around = read.of_input; join = c.in_ok-contents.ensures.found };
      text = read.text;
    }

pub returns-in_err-job-clause-memory : goal.returns-in_err-job-clause-memory
returns-in_err-job-clause-memory c =
    let p = err_from_is_err_and c.from_residual.result c.from_residual.ensures.1 in
    rw (p.1, p.2) (subst (λ (input : List ℕ). IsMemoryOnlyIf (HasShortTextInThree input) c.in_err-job.field-0.0) c.as_slice.ensures.value
    c.in_err-job.ensures.memory)

pub returns-in_err-contents-clause-memory : goal.returns-in_err-contents-clause-memory
returns-in_err-contents-clause-memory c =
    let p = err_from_is_err_and c.from_residual-in_err-contents.result c.from_residual-in_err-contents.ensures.1 in
    let read =
    subst (λ (input : List ℕ). IsReadAround input c.args.given.now c.args.sides c.in_ok-job.job c.in_ok-job.middle.now)
    c.as_slice.ensures.value c.in_ok-job.ensures.of_input in
    let around = read.of_input in
    rw (p.1, p.2) (only_if (HasShortTextInThree c.args.input.items)
    (short_of_input_in_three c.args.input.items read.tree c.in_ok-job.middle.now around.tables around.source around.read)
    (fault_at_lines c.in_err-contents.field-0.0))
