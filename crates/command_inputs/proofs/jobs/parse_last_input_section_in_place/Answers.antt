use Rattle.std.proofs.Common.{List, ℕ, inl, inr, ◌+◌, drop, length, refl, subst, arith}
use Rattle.std.proofs.Math.Seq.{drop-drop}
use Rattle.std.proofs.lemmas.List.{length-drop}
use Rattle.std.proofs.lemmas.Result.{err_from_is_err_and}
use Rattle.pipe_tree.specs.Tree.{declarations}
use Rattle.pipe_checks.specs.Names.{tables_of}
use Rattle.command_inputs.specs.Tables.{AreTableLines}
use Rattle.command_inputs.specs.inside.Steps.{AreTablesBefore, IsTablesRefusal}
use Rattle.command_inputs.proofs.TableLines.{rest_is}
use Rattle.command_inputs.proofs.jobs.parse_last_input_section_in_place.Goals as goal

pub returns-in_err-tables-clause-fault : goal.returns-in_err-tables-clause-fault
returns-in_err-tables-clause-fault c =
    let p = err_from_is_err_and c.from_residual.result c.from_residual.ensures.1 in
    let count = length (tables_of (declarations c.args.items.now)) in
    let start = c.args.start in
    let f = c.in_err-tables.field-0.0 in
    rw (p.1, p.2) (inl (subst (λ (input : List ℕ). IsTablesRefusal (drop start input) count f) c.as_slice.ensures.value
    (subst (λ (rest : List ℕ). IsTablesRefusal rest count f) (rest_is c.as_slice.result.now start) c.in_err-tables.ensures.fault)))

pub read_picture_in_place-requires : goal.read_picture_in_place-requires
read_picture_in_place-requires c =
    let count = length (tables_of (declarations c.args.items.now)) in
    let start = c.args.start in
    let tables = c.in_ok-tables.tables.items in
    let read =
    subst (λ (input : List ℕ). AreTablesBefore (drop start input) count tables c.in_ok-tables.length) c.as_slice.ensures.value
    (subst (λ (rest : List ℕ). AreTablesBefore rest count tables c.in_ok-tables.length) (rest_is c.as_slice.result.now start)
    c.in_ok-tables.ensures.ok) in
    omega (arith, c.requires, read.within, length-drop start c.args.input.items)

pub returns-in_err-picture-clause-fault : goal.returns-in_err-picture-clause-fault
returns-in_err-picture-clause-fault c =
    let p = err_from_is_err_and c.from_residual-in_err-picture.result c.from_residual-in_err-picture.ensures.1 in
    let count = length (tables_of (declarations c.args.items.now)) in
    let input = c.args.input.items in
    let start = c.args.start in
    let tables = c.in_ok-tables.tables.items in
    let read =
    subst (λ (input : List ℕ). AreTablesBefore (drop start input) count tables c.in_ok-tables.length) c.as_slice.ensures.value
    (subst (λ (rest : List ℕ). AreTablesBefore rest count tables c.in_ok-tables.length) (rest_is c.as_slice.result.now start)
    c.in_ok-tables.ensures.ok) in
    rw (p.1, p.2) (inr (record {
      tables = tables;
      each = read.each;
      spelling = drop (start + c.in_ok-tables.length) input;
      lines = subst (AreTableLines (drop start input) tables) (drop-drop c.in_ok-tables.length start input) read.lines;
      picture = c.in_err-picture.field-0.0;
      bad = c.in_err-picture.ensures.fault;
      told = refl;
    }))

pub returns-clause-ok : goal.returns-clause-ok
returns-clause-ok c =
    let count = length (tables_of (declarations c.args.items.now)) in
    let input = c.args.input.items in
    let start = c.args.start in
    let tables = c.in_ok-tables.tables.items in
    let read =
    subst (λ (input : List ℕ). AreTablesBefore (drop start input) count tables c.in_ok-tables.length) c.as_slice.ensures.value
    (subst (λ (rest : List ℕ). AreTablesBefore rest count tables c.in_ok-tables.length) (rest_is c.as_slice.result.now start)
    c.in_ok-tables.ensures.ok) in
    record {
      each = read.each;
      spelling = drop (start + c.in_ok-tables.length) input;
      lines = subst (AreTableLines (drop start input) tables) (drop-drop c.in_ok-tables.length start input) read.lines;
      picture = c.in_ok-picture.ensures.found;
    }
