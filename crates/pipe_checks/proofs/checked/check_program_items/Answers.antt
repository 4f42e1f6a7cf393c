use Rattle.std.proofs.Common.{◌≡◌, true, List, filter, ◌∙◌, ap, subst, rules}
use Rattle.std.specs.List.{list_any}
use Rattle.std.proofs.lemmas.Result.{err_from_is_err_and}
use Rattle.pipe_tree.specs.Tree.{declarations}
use Rattle.pipe_checks.specs.declared.symbol.Symbol.{Symbol}
use Rattle.pipe_checks.specs.Names.{is_stage}
use Rattle.pipe_checks.specs.Accesses.{links_from}
use Rattle.pipe_checks.specs.Checking.{is_result}
use Rattle.pipe_checks.specs.inside.Search.{IsCyclic}
use Rattle.pipe_checks.proofs.Faulting.{cyclic_fault}
use Rattle.pipe_checks.proofs.checked.check_program_items.Goals as goal

pub returns-in_err-ranks-clause-err : goal.returns-in_err-ranks-clause-err
returns-in_err-ranks-clause-err c =
    let ds = declarations c.args.items.now in
    let names = c.symbols-names.ensures ∙ c.in_ok-check_unique_names_then_all_items.ensures.same in
    let result : list_any is_result ds ≡ true = search rules in
    let stages = c.deref.ensures.value ∙ c.in_ok-stages.ensures ∙ ap (filter (λ (d : Symbol). is_stage d.kind)) names in
    let graph = c.deref-2.ensures.value ∙ c.in_ok-graph.ensures ∙ ap (λ (st : List Symbol). links_from ds st st) stages in
    let cyclic = subst (λ g. IsCyclic g c.in_err-ranks.field-0.0) graph c.in_err-ranks.ensures.err in
    let p = err_from_is_err_and c.from_residual-in_err-ranks.result c.from_residual-in_err-ranks.ensures.1 in
    rw (p.1, p.2) (cyclic_fault ds c.in_err-ranks.field-0.0 c.in_ok-check_unique_names_then_all_items.ensures.ok result cyclic)
