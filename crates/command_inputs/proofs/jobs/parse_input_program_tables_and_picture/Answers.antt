use Rattle.std.proofs.Common.{List, ℕ, ◌≤◌, ◌∙◌, ap, drop, length, subst}
use Rattle.std.proofs.lemmas.Result.{err_from_is_err_and}
use Rattle.pipe_tree.specs.Content.{content}
use Rattle.pipe_tree.specs.Tree.{Declaration, declarations}
use Rattle.pipe_checks.specs.Names.{tables_of}
use Rattle.command_inputs.specs.Faults.{HasShortText, IsFaultOf, IsMemoryOnlyIf}
use Rattle.command_inputs.specs.inside.Steps.{IsLastRefusal, IsProgramBefore}
use Rattle.command_inputs.proofs.Known.{last_fault, spelling_fault}
use Rattle.command_inputs.proofs.MemoryRefusals.{only_if}
use Rattle.command_inputs.proofs.jobs.parse_input_program_tables_and_picture.Goals as goal

pub returns-in_err-tree-clause-fault : goal.returns-in_err-tree-clause-fault
returns-in_err-tree-clause-fault c = λ given sides.
    let p = err_from_is_err_and c.from_residual.result c.from_residual.ensures.1 in
    rw (p.1, p.2) (subst (λ (input : List ℕ). IsFaultOf input given sides c.in_err-tree.field-0.0) c.as_slice.ensures.value
    (c.in_err-tree.ensures.fault given sides))

pub parse_last_input_section_in_place-requires : goal.parse_last_input_section_in_place-requires
parse_last_input_section_in_place-requires c =
    subst (λ (input : List ℕ). c.in_ok-tree.start ≤ length input) c.as_slice.ensures.value c.in_ok-tree.ensures.ok.within

pub returns-in_err-tables-clause-fault : goal.returns-in_err-tables-clause-fault
returns-in_err-tables-clause-fault c = λ given sides.
    let p = err_from_is_err_and c.from_residual-in_err-tables.result c.from_residual-in_err-tables.ensures.1 in
    let before = subst (λ (input : List ℕ). IsProgramBefore input (content c.in_ok-tree.tree) c.in_ok-tree.start)
    c.as_slice.ensures.value c.in_ok-tree.ensures.ok in
    let last = drop c.in_ok-tree.start c.args.input.items in
    let f = c.in_err-tables.field-0.0 in
    rw (p.1, p.2) (spelling_fault c.args.input.items before.text last given sides f before.parted
    (last_fault before.text last (content c.in_ok-tree.tree) f before.program
    (subst (λ (ds : List Declaration). IsLastRefusal last (length (tables_of ds)) f) (ap declarations c.items.ensures)
    c.in_err-tables.ensures.fault)))

pub returns-clause-ok : goal.returns-clause-ok
returns-clause-ok c =
    let before = subst (λ (input : List ℕ). IsProgramBefore input (content c.in_ok-tree.tree) c.in_ok-tree.start)
    c.as_slice.ensures.value c.in_ok-tree.ensures.ok in
    let read = c.in_ok-tables.ensures.ok in
    record {
      text = before.text;
      last = drop c.in_ok-tree.start c.args.input.items;
      parted = before.parted;
      spelled =
          record {
            program = before.program;
            each = read.each ∙ ap (λ (ds : List Declaration). length (tables_of ds)) (ap declarations c.items.ensures);
            spelling = read.spelling;
            lines = read.lines;
            picture = read.picture;
          };
    }

pub returns-in_err-tree-clause-memory : goal.returns-in_err-tree-clause-memory
returns-in_err-tree-clause-memory c =
    let p = err_from_is_err_and c.from_residual.result c.from_residual.ensures.1 in
    rw (p.1, p.2) (subst (λ (input : List ℕ). IsMemoryOnlyIf (HasShortText input) c.in_err-tree.field-0.0) c.as_slice.ensures.value
    c.in_err-tree.ensures.memory)

pub returns-in_err-tables-clause-memory : goal.returns-in_err-tables-clause-memory
returns-in_err-tables-clause-memory c =
    let p = err_from_is_err_and c.from_residual-in_err-tables.result c.from_residual-in_err-tables.ensures.1 in
    let before = subst (λ (input : List ℕ). IsProgramBefore input (content c.in_ok-tree.tree) c.in_ok-tree.start)
    c.as_slice.ensures.value c.in_ok-tree.ensures.ok in
    let short : HasShortText c.args.input.items = record {
      text = before.text;
      last = drop c.in_ok-tree.start c.args.input.items;
      parted = before.parted;
      short = before.program.short;
    } in
    rw (p.1, p.2) (only_if (HasShortText c.args.input.items) short c.in_err-tables.field-0.0)
