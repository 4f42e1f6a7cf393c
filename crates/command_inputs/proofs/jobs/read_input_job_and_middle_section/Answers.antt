use Rattle.std.proofs.Common.{◌≤◌, length}
use Rattle.std.proofs.lemmas.Result.{err_from_is_err_and}
use Rattle.pipe_tree.specs.Content.{content}
use Rattle.job.specs.Kept.{pipeline_in}
use Rattle.command_inputs.specs.Input.{IsInputInThree}
use Rattle.pipe_tree.specs.Limits.{most_bytes}
use Rattle.command_inputs.specs.Faults.{HasShortTextInThree}
use Rattle.command_inputs.proofs.MemoryRefusals.{only_if, only_if_weaker}
use Rattle.command_inputs.proofs.Known.{job_fault_around, job_small, spelling_fault_around}
use Rattle.command_inputs.proofs.jobs.read_input_job_and_middle_section.Goals as goal

pub returns-in_err-tree-clause-fault : goal.returns-in_err-tree-clause-fault
returns-in_err-tree-clause-fault c =
    let p = err_from_is_err_and c.from_residual.result c.from_residual.ensures.1 in
    rw (p.1, p.2) (spelling_fault_around c.args.input.now c.in-Some.text.now c.in-Some.middle.now c.in-Some.last.now
    c.args.given.now c.args.sides c.in_err-tree.field-0.0 c.in-Some.ensures.parted c.in_err-tree.ensures.fault)

pub returns-in_err-job-clause-fault : goal.returns-in_err-job-clause-fault
returns-in_err-job-clause-fault c =
    let p = err_from_is_err_and c.from_residual-in_err-job.result c.from_residual-in_err-job.ensures.1 in
    let read :
    IsInputInThree c.args.input.now (content c.in_ok-tree.tree) c.in-Some.middle.now c.in_ok-tree.tables.items c.in_ok-tree.picture =
    record {
      text = c.in-Some.text.now;
      last = c.in-Some.last.now;
      parted = c.in-Some.ensures.parted;
      spelled = c.in_ok-tree.ensures.ok;
    } in
    rw (p.1, p.2) (job_fault_around c.args.input.now c.in-Some.middle.now c.args.given.now c.args.sides (content c.in_ok-tree.tree)
    c.in_ok-tree.tables.items c.in_ok-tree.picture c.in_err-job.field-0.0 read c.in_err-job.ensures.fault)

pub returns-clause-of_input : goal.returns-clause-of_input
returns-clause-of_input c =
    record {
      tree = content c.in_ok-tree.tree;
      of_input =
          record {
            tables = c.in_ok-tree.tables.items;
            source = c.in_ok-tree.picture;
            read =
                record {
                  text = c.in-Some.text.now;
                  last = c.in-Some.last.now;
                  parted = c.in-Some.ensures.parted;
                  spelled = c.in_ok-tree.ensures.ok;
                };
            made = c.in_ok-job.ensures.made;
          };
      text = c.in_ok-job.ensures.text;
    }

pub returns-clause-small : goal.returns-clause-small
returns-clause-small c =
    job_small c.in-Some.text.now c.in-Some.last.now c.args.given.now c.args.sides (content c.in_ok-tree.tree) c.in_ok-tree.tables.items
    c.in_ok-tree.picture (pipeline_in c.in_ok-job.job) c.in_ok-tree.ensures.ok c.in_ok-job.ensures.made

pub returns-in_err-tree-clause-memory : goal.returns-in_err-tree-clause-memory
returns-in_err-tree-clause-memory c =
    let p = err_from_is_err_and c.from_residual.result c.from_residual.ensures.1 in
    rw (p.1, p.2) (only_if_weaker (length c.in-Some.text.now ≤ most_bytes) (HasShortTextInThree c.args.input.now)
    (λ short. record {
      text = c.in-Some.text.now;
      middle = c.in-Some.middle.now;
      last = c.in-Some.last.now;
      parted = c.in-Some.ensures.parted;
      short = short;
    })
    c.in_err-tree.field-0.0 c.in_err-tree.ensures.memory)

pub returns-in_err-job-clause-memory : goal.returns-in_err-job-clause-memory
returns-in_err-job-clause-memory c =
    let p = err_from_is_err_and c.from_residual-in_err-job.result c.from_residual-in_err-job.ensures.1 in
    let short : HasShortTextInThree c.args.input.now = record {
      text = c.in-Some.text.now;
      middle = c.in-Some.middle.now;
      last = c.in-Some.last.now;
      parted = c.in-Some.ensures.parted;
      short = c.in_ok-tree.ensures.ok.program.short;
    } in
    rw (p.1, p.2) (only_if (HasShortTextInThree c.args.input.now) short c.in_err-job.field-0.0)
