use Rattle.std.proofs.Common.{ap, ◌∙◌, List, arith}
use Rattle.std.proofs.lemmas.Result.{err_from_is_err_and}
use Rattle.identity.specs.declared.job_ids.JobId.{JobId}
use Rattle.tile_fact.specs.declared.fact.Fact.{Fact}
use Rattle.tile_fact.proofs.WholeLaws.{is_found, same_contents, is_memory, is_fault}
use Rattle.tile_fact.proofs.file.decode.Goals as goal

pub returns-clause-found : goal.returns-clause-found
returns-clause-found c =
    let x : List JobId × List Fact = (c.in_ok-retired.retired.items, c.in_ok-retired.facts.items) in
    rw (c.new.ensures, c.new-2.ensures)
    (is_found c.args.bytes.now x (λ i. omega (arith, c.type_inv.bytes i)) c.in_ok-retired.ensures)

pub returns-clause-only : goal.returns-clause-only
returns-clause-only c = λ retired facts is.
    let x : List JobId × List Fact = (c.in_ok-retired.retired.items, c.in_ok-retired.facts.items) in
    let same = same_contents c.args.bytes.now x retired facts c.in_ok-retired.ensures is in
    (c.new.ensures ∙ ap (λ (y : List JobId × List Fact). y.0) same, c.new-2.ensures ∙ ap (λ (y : List JobId × List Fact). y.1) same)

pub returns-in_err-retired-clause-only : goal.returns-in_err-retired-clause-only
returns-in_err-retired-clause-only c =
    λ retired facts is. let p = err_from_is_err_and c.from_residual.result c.from_residual.ensures.1 in
    rw (p.1, p.2) (is_memory c.args.bytes.now retired facts _ c.in_err-retired.ensures is)

pub returns-in_err-retired-clause-fault : goal.returns-in_err-retired-clause-fault
returns-in_err-retired-clause-fault c =
    let p = err_from_is_err_and c.from_residual.result c.from_residual.ensures.1 in
    rw (p.1, p.2) (is_fault c.args.bytes.now _ (λ i. omega (arith, c.type_inv.bytes i)) c.in_err-retired.ensures)
