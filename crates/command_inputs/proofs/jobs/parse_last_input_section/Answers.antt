use Rattle.std.proofs.Common.{List, ℕ, inl, inr, drop, refl, subst}
use Rattle.std.proofs.lemmas.Result.{err_from_is_err_and}
use Rattle.netpbm.specs.Faults.{IsFault}
use Rattle.netpbm.specs.Grammar.{IsPicture}
use Rattle.command_inputs.proofs.TableLines.{rest_is}
use Rattle.command_inputs.proofs.jobs.parse_last_input_section.Goals as goal

pub returns-in_err-tables-clause-fault : goal.returns-in_err-tables-clause-fault
returns-in_err-tables-clause-fault c =
    let p = err_from_is_err_and c.from_residual.result c.from_residual.ensures.1 in
    rw (p.1, p.2) (inl c.in_err-tables.ensures.fault)

pub returns-in_err-picture-clause-fault : goal.returns-in_err-picture-clause-fault
returns-in_err-picture-clause-fault c =
    let p = err_from_is_err_and c.from_residual-in_err-picture.result c.from_residual-in_err-picture.ensures.1 in
    let read = c.in_ok-tables.ensures.ok in
    rw (p.1, p.2) (inr (record {
      tables = c.in_ok-tables.tables.items;
      each = read.each;
      spelling = drop c.in_ok-tables.start c.args.last.now;
      lines = read.lines;
      picture = c.in_err-picture.field-0.0;
      bad =
          subst (λ (spelling : List ℕ). IsFault spelling c.in_err-picture.field-0.0) (rest_is c.args.last.now c.in_ok-tables.start)
          c.in_err-picture.ensures.fault;
      told = refl;
    }))

pub returns-clause-ok : goal.returns-clause-ok
returns-clause-ok c =
    let read = c.in_ok-tables.ensures.ok in
    record {
      each = read.each;
      spelling = drop c.in_ok-tables.start c.args.last.now;
      lines = read.lines;
      picture =
          subst (λ (spelling : List ℕ). IsPicture spelling c.in_ok-picture.picture) (rest_is c.args.last.now c.in_ok-tables.start)
          c.in_ok-picture.ensures.found;
    }
