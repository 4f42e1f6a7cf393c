use Rattle.std.proofs.Common.{◌≡◌, ◌⊎◌, List, ◌∙◌, ap, subst}
use Rattle.pipe_tree.specs.Tree.{declarations}
use Rattle.pipe_tree.specs.Content.{content, items_of}
use Rattle.pipe_checks.specs.Checking.{tree_in}
use Rattle.std.proofs.lemmas.Result.{err_from_is_err_and}
use Rattle.pipe_bounds.specs.declared.fault.BoundFault.TheVariants.{Memory}
use Rattle.pipe_bounds.specs.InBounds.{AreInBounds, IsFirstStage}
use Rattle.pipe_bounds.specs.StageBounds.{StageBounds, domains_in}
use Rattle.pipe_bounds.proofs.Telling.{tells_domain, in_bounds, departs}
use Rattle.pipe_bounds.proofs.TableSpans.{checked_tables, tables_declared}
use Rattle.pipe_bounds.proofs.Sounding.{checked_declared, checked_sound}
use Rattle.pipe_bounds.proofs.within.find_program_bounds.Goals as goal

pub collect_table_bounds-requires-clause-declared : goal.collect_table_bounds-requires-clause-declared
collect_table_bounds-requires-clause-declared c =
    let items = ap declarations (c.items-items.ensures ∙ ap items_of c.tree.ensures.program) in
    let tables = c.tables.ensures ∙ c.tree.ensures.checked.tables in
    tables_declared (declarations c.items-items.result.now) c.tables.result.now
    (checked_tables (content (tree_in c.args.checked.now)) (declarations c.items-items.result.now) c.tables.result.now items tables)

pub collect_table_bounds-requires-clause-tables : goal.collect_table_bounds-requires-clause-tables
collect_table_bounds-requires-clause-tables c =
    let items = ap declarations (c.items-items.ensures ∙ ap items_of c.tree.ensures.program) in
    let tables = c.tables.ensures ∙ c.tree.ensures.checked.tables in
    checked_tables (content (tree_in c.args.checked.now)) (declarations c.items-items.result.now) c.tables.result.now items tables

pub collect_stage_bounds-requires : goal.collect_stage_bounds-requires
collect_stage_bounds-requires c =
    let items = ap declarations (c.items-items.ensures ∙ ap items_of c.tree.ensures.program) in
    let stages = c.stages-stages.ensures ∙ c.tree.ensures.checked.stages in
    checked_declared (content (tree_in c.args.checked.now)) (declarations c.items-items.result.now) c.stages-stages.result.now items stages

pub returns-in_err-found-clause-fault : goal.returns-in_err-found-clause-fault
returns-in_err-found-clause-fault c =
    let items = ap declarations (c.items-items.ensures ∙ ap items_of c.tree.ensures.program) in
    let tables = c.tables.ensures ∙ c.tree.ensures.checked.tables in
    let stages = c.stages-stages.ensures ∙ c.tree.ensures.checked.stages in
    let p = err_from_is_err_and c.from_residual-in_err-found.result c.from_residual-in_err-found.ensures.1 in
    rw (p.1, p.2) (tells_domain c.args.params.now (content (tree_in c.args.checked.now)) (declarations c.items-items.result.now)
    c.tables.result.now items tables c.in_ok-tables.tables.items c.in_ok-tables.ensures c.stages-stages.result.now stages
    c.in_err-found.field-0.0 c.in_ok-check_all_params_have_values.ensures c.in_err-found.ensures)

pub check_bounds_of_all_stage_reads-requires-clause-declared : goal.check_bounds_of_all_stage_reads-requires-clause-declared
check_bounds_of_all_stage_reads-requires-clause-declared c =
    let items = ap declarations (c.items-items.ensures ∙ ap items_of c.tree.ensures.program) in
    let stages = c.stages-stages.ensures ∙ c.tree.ensures.checked.stages in
    checked_declared (content (tree_in c.args.checked.now)) (declarations c.items-items.result.now) c.stages-stages.result.now items stages

pub check_bounds_of_all_stage_reads-requires-clause-sound : goal.check_bounds_of_all_stage_reads-requires-clause-sound
check_bounds_of_all_stage_reads-requires-clause-sound c =
    let items = ap declarations (c.items-items.ensures ∙ ap items_of c.tree.ensures.program) in
    checked_sound (content (tree_in c.args.checked.now)) (declarations c.items-items.result.now) c.stages-stages.result.now items
    c.tree.ensures.checked.named.good

pub returns-in_err-check_bounds_of_all_stage_reads-clause-fault : goal.returns-in_err-check_bounds_of_all_stage_reads-clause-fault
returns-in_err-check_bounds_of_all_stage_reads-clause-fault c =
    let items = ap declarations (c.items-items.ensures ∙ ap items_of c.tree.ensures.program) in
    let tables = c.tables.ensures ∙ c.tree.ensures.checked.tables in
    let stages = c.stages-stages.ensures ∙ c.tree.ensures.checked.stages in
    let f = c.in_err-check_bounds_of_all_stage_reads.field-0.0 in
    let first =
    subst (λ (xs : List StageBounds). (f ≡ Memory)
    ⊎ IsFirstStage c.args.params.now (declarations c.items-items.result.now) c.stages-stages.result.now (domains_in xs) f)
    c.deref.ensures.value c.in_err-check_bounds_of_all_stage_reads.ensures in
    let p = err_from_is_err_and c.from_residual-in_err-check_bounds_of_all_stage_reads.result c.from_residual-in_err-check_bounds_of_all_stage_reads.ensures.1 in
    rw (p.1, p.2) (departs c.args.params.now (content (tree_in c.args.checked.now)) (declarations c.items-items.result.now)
    c.tables.result.now items tables c.in_ok-tables.tables.items c.in_ok-tables.ensures c.stages-stages.result.now stages
    c.in_ok-found.found.items c.in_ok-found.ensures f c.in_ok-check_all_params_have_values.ensures first)

pub returns-clause-ok : goal.returns-clause-ok
returns-clause-ok c =
    let items = ap declarations (c.items-items.ensures ∙ ap items_of c.tree.ensures.program) in
    let tables = c.tables.ensures ∙ c.tree.ensures.checked.tables in
    let stages = c.stages-stages.ensures ∙ c.tree.ensures.checked.stages in
    let stays =
    subst (λ (xs : List StageBounds). AreInBounds c.args.params.now (declarations c.items-items.result.now) c.stages-stages.result.now
    (domains_in xs)) c.deref.ensures.value c.in_ok-check_bounds_of_all_stage_reads.ensures in
    in_bounds c.args.params.now (content (tree_in c.args.checked.now)) (declarations c.items-items.result.now) c.tables.result.now items
    tables c.in_ok-tables.tables.items c.in_ok-tables.ensures c.stages-stages.result.now stages c.in_ok-found.found.items
    c.in_ok-found.ensures c.in_ok-check_all_params_have_values.ensures stays
