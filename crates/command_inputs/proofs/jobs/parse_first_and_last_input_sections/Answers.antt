use Rattle.std.proofs.Common.{List, ◌≤◌, length, ap, ◌∙◌, subst}
use Rattle.std.proofs.lemmas.Result.{err_from_is_err_and}
use Rattle.pipe_tree.specs.Tree.{Declaration, declarations}
use Rattle.pipe_tree.specs.Content.{content}
use Rattle.pipe_checks.specs.Names.{tables_of}
use Rattle.command_inputs.specs.inside.Steps.{IsLastRefusal}
use Rattle.command_inputs.proofs.Known.{last_fault, program_fault}
use Rattle.command_inputs.proofs.MemoryRefusals.{only_if, short_text}
use Rattle.pipe_tree.specs.Limits.{most_bytes}
use Rattle.command_inputs.proofs.jobs.parse_first_and_last_input_sections.Goals as goal

pub returns-in_err-tree-clause-fault : goal.returns-in_err-tree-clause-fault
returns-in_err-tree-clause-fault c =
    let p = err_from_is_err_and c.from_residual.result c.from_residual.ensures.1 in
    rw (p.1, p.2) (program_fault c.args.text.now c.args.last.now c.in_err-tree.field-0.0 c.in_err-tree.ensures.fault)

pub returns-in_err-tables-clause-fault : goal.returns-in_err-tables-clause-fault
returns-in_err-tables-clause-fault c =
    let p = err_from_is_err_and c.from_residual-in_err-tables.result c.from_residual-in_err-tables.ensures.1 in
    let items = ap declarations c.items.ensures in
    rw (p.1, p.2) (last_fault c.args.text.now c.args.last.now (content c.in_ok-tree.tree) c.in_err-tables.field-0.0
    c.in_ok-tree.ensures.found
    (subst (λ (ds : List Declaration). IsLastRefusal c.args.last.now (length (tables_of ds)) c.in_err-tables.field-0.0) items
    c.in_err-tables.ensures.fault))

pub returns-clause-ok : goal.returns-clause-ok
returns-clause-ok c =
    let read = c.in_ok-tables.ensures.ok in
    record {
      program = c.in_ok-tree.ensures.found;
      each = read.each ∙ ap (λ (ds : List Declaration). length (tables_of ds)) (ap declarations c.items.ensures);
      spelling = read.spelling;
      lines = read.lines;
      picture = read.picture;
    }

pub returns-in_err-tree-clause-memory : goal.returns-in_err-tree-clause-memory
returns-in_err-tree-clause-memory c =
    let p = err_from_is_err_and c.from_residual.result c.from_residual.ensures.1 in
    rw (p.1, p.2) (short_text c.args.text.now c.in_err-tree.field-0.0 c.in_err-tree.ensures.long)

pub returns-in_err-tables-clause-memory : goal.returns-in_err-tables-clause-memory
returns-in_err-tables-clause-memory c =
    let p = err_from_is_err_and c.from_residual-in_err-tables.result c.from_residual-in_err-tables.ensures.1 in
    rw (p.1, p.2) (only_if (length c.args.text.now ≤ most_bytes) c.in_ok-tree.ensures.found.short c.in_err-tables.field-0.0)
