use Rattle.std.proofs.Common.{◌≡◌, ◌∙◌, ℕ, List, [], ◌∷◌, ap, subst}
use Rattle.std.proofs.lemmas.Result.{err_from_is_err_and}
use Rattle.catalog.specs.Entries.{Entry}
use Rattle.gossip_events.specs.ScriptFaults.{IsScriptFault}
use Rattle.command_faults.specs.StepFaults.{fault_at_script}
use Rattle.command_inputs.specs.Faults.{HasShortTextInThree, IsFaultAround, IsMemoryOnlyIf}
use Rattle.command_inputs.specs.Input.{IsReadAround}
use Rattle.command_inputs.proofs.MemoryRefusals.{only_if, short_of_input_in_three}
use Rattle.job.specs.Kept.{pipeline_in}
use Rattle.command_inputs.specs.JobCatalog.{catalog_of}
use Rattle.world_commands.proofs.Faults.{script_fault, world_fault_around}
use Rattle.world_commands.proofs.world_input.read_catalog_and_events_of_world_input.Goals as goal

pub returns-in_err-job-clause-fault : goal.returns-in_err-job-clause-fault
returns-in_err-job-clause-fault c =
    let p = err_from_is_err_and c.from_residual.result c.from_residual.ensures.1 in
    let fault = c.in_err-job.field-0.0 in
    rw (p.1, p.2) (world_fault_around c.args.input.items c.args.given.now c.args.options.now.sides fault
    (subst (λ (input : List ℕ). IsFaultAround input c.args.given.now c.args.options.now.sides fault) c.as_slice.ensures.value
    c.in_err-job.ensures.fault))

pub returns-in_err-events-clause-fault : goal.returns-in_err-events-clause-fault
returns-in_err-events-clause-fault c =
    let p = err_from_is_err_and c.from_residual-in_err-events.result c.from_residual-in_err-events.ensures.1 in
    let read =
    subst (λ (input : List ℕ). IsReadAround input c.args.given.now c.args.options.now.sides c.in_ok-job.job c.in_ok-job.script.now)
    c.as_slice.ensures.value c.in_ok-job.ensures.of_input in
    let job = pipeline_in c.in_ok-job.job in
    let one : c.in_ok-catalog.catalog ≡ catalog_of read.tree job =
    c.in_ok-catalog.ensures ∙ ap (λ t. record { text = t; pipeline = job } ∷ []) read.text in
    rw (p.1, p.2) (script_fault c.args.input.items c.in_ok-job.script.now c.args.given.now c.args.options.now.sides read.tree job
    c.in_err-events.field-0.0 read.of_input
    (subst (λ (jobs : List Entry). IsScriptFault jobs c.in_ok-job.script.now c.in_err-events.field-0.0) one c.in_err-events.ensures.fault))

pub returns-in_err-job-clause-memory : goal.returns-in_err-job-clause-memory
returns-in_err-job-clause-memory c =
    let p = err_from_is_err_and c.from_residual.result c.from_residual.ensures.1 in
    rw (p.1, p.2) (subst (λ (input : List ℕ). IsMemoryOnlyIf (HasShortTextInThree input) c.in_err-job.field-0.0) c.as_slice.ensures.value
    c.in_err-job.ensures.memory)

pub returns-in_err-catalog-clause-memory : goal.returns-in_err-catalog-clause-memory
returns-in_err-catalog-clause-memory c =
    let p = err_from_is_err_and c.from_residual-in_err-catalog.result c.from_residual-in_err-catalog.ensures.1 in
    let read =
    subst (λ (input : List ℕ). IsReadAround input c.args.given.now c.args.options.now.sides c.in_ok-job.job c.in_ok-job.script.now)
    c.as_slice.ensures.value c.in_ok-job.ensures.of_input in
    let around = read.of_input in
    rw (p.1, p.2)
    (short_of_input_in_three c.args.input.items read.tree c.in_ok-job.script.now around.tables around.source around.read)

pub returns-in_err-events-clause-memory : goal.returns-in_err-events-clause-memory
returns-in_err-events-clause-memory c =
    let p = err_from_is_err_and c.from_residual-in_err-events.result c.from_residual-in_err-events.ensures.1 in
    let read =
    subst (λ (input : List ℕ). IsReadAround input c.args.given.now c.args.options.now.sides c.in_ok-job.job c.in_ok-job.script.now)
    c.as_slice.ensures.value c.in_ok-job.ensures.of_input in
    let around = read.of_input in
    rw (p.1, p.2) (only_if (HasShortTextInThree c.args.input.items)
    (short_of_input_in_three c.args.input.items read.tree c.in_ok-job.script.now around.tables around.source around.read)
    (fault_at_script c.in_err-events.field-0.0))
