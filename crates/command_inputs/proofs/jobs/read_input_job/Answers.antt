use Rattle.std.proofs.lemmas.Result.{IfErr-weaker, IfOk-weaker, err_from_is_err_and}
use Rattle.pipe_tree.specs.Content.{content}
use Rattle.job.specs.Kept.{pipeline_in}
use Rattle.command_inputs.specs.Faults.{HasShortText}
use Rattle.command_inputs.proofs.Known.{job_fault, job_small}
use Rattle.command_inputs.proofs.MemoryRefusals.{only_if, short_of_input}
use Rattle.command_inputs.proofs.Listed.{both_then}
use Rattle.command_inputs.proofs.jobs.read_input_job.Goals as goal

pub returns-in_err-tree-clause-fault : goal.returns-in_err-tree-clause-fault
returns-in_err-tree-clause-fault c =
    let p = err_from_is_err_and c.from_residual.result c.from_residual.ensures.1 in
    rw (p.1, p.2) (c.in_err-tree.ensures.fault c.args.given.now c.args.sides)

pub returns-clause-of_input : goal.returns-clause-of_input
returns-clause-of_input c =
    both_then c.check_and_bind_input_job.result
    (λ job made text. record {
      tree = content c.in_ok-tree.tree;
      of_input =
          record {
            tables = c.in_ok-tree.tables.items;
            source = c.in_ok-tree.picture;
            read = c.in_ok-tree.ensures.ok;
            made = made;
          };
      text = text;
    })
    c.check_and_bind_input_job.ensures.made
    c.check_and_bind_input_job.ensures.text

pub returns-clause-small : goal.returns-clause-small
returns-clause-small c =
    let read = c.in_ok-tree.ensures.ok in
    IfOk-weaker c.check_and_bind_input_job.result _ _
    (λ job made. job_small read.text read.last c.args.given.now c.args.sides (content c.in_ok-tree.tree) c.in_ok-tree.tables.items
    c.in_ok-tree.picture (pipeline_in job) read.spelled made)
    c.check_and_bind_input_job.ensures.made

pub returns-clause-fault : goal.returns-clause-fault
returns-clause-fault c =
    IfErr-weaker c.check_and_bind_input_job.result _ _
    (λ f is. job_fault c.args.input.items c.args.given.now c.args.sides (content c.in_ok-tree.tree) c.in_ok-tree.tables.items
    c.in_ok-tree.picture f
    c.in_ok-tree.ensures.ok is)
    c.check_and_bind_input_job.ensures.fault

pub returns-in_err-tree-clause-memory : goal.returns-in_err-tree-clause-memory
returns-in_err-tree-clause-memory c =
    let p = err_from_is_err_and c.from_residual.result c.from_residual.ensures.1 in
    rw (p.1, p.2) c.in_err-tree.ensures.memory

pub returns-clause-memory : goal.returns-clause-memory
returns-clause-memory c =
    let short =
    short_of_input c.args.input.items (content c.in_ok-tree.tree) c.in_ok-tree.tables.items c.in_ok-tree.picture c.in_ok-tree.ensures.ok in
    IfErr-weaker c.check_and_bind_input_job.result _ _
    (λ f is. only_if (HasShortText c.args.input.items) short f)
    c.check_and_bind_input_job.ensures.fault
