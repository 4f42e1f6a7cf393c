use Rattle.std.proofs.Common.{List, ℕ, subst}
use Rattle.std.proofs.lemmas.Result.{err_from_is_err_and}
use Rattle.fact_lines.specs.Faults.{IsFault}
use Rattle.fact_lines.specs.Texts.{IsJoin}
use Rattle.fact_commands.proofs.Faults.{merge_fault}
use Rattle.fact_commands.proofs.fact_input.join_fact_files_of_merge_input.Goals as goal

pub returns-in_err-join_fact_file_lines-clause-fault : goal.returns-in_err-join_fact_file_lines-clause-fault
returns-in_err-join_fact_file_lines-clause-fault c =
    let p = err_from_is_err_and c.from_residual.result c.from_residual.ensures.1 in
    let fault = c.in_err-join_fact_file_lines.field-0.0 in
    rw (p.1, p.2) (merge_fault c.args.input.items fault
    (subst (λ (text : List ℕ). IsFault text fault) c.as_slice.ensures.value c.in_err-join_fact_file_lines.ensures.fault))

pub returns-clause-join : goal.returns-clause-join
returns-clause-join c =
    subst (λ (text : List ℕ). IsJoin text c.in_ok-join_fact_file_lines.field-0.retired.items c.in_ok-join_fact_file_lines.field-0.facts.items) c.as_slice.ensures.value c.in_ok-join_fact_file_lines.ensures.found
