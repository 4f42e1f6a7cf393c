use Rattle.std.proofs.Common.{Option, ◌≡◌, ◌⊎◌, List, arith, refl, sym, ◌∙◌, subst}
use Rattle.std.proofs.lemmas.List.{length-map}
use Rattle.std.proofs.lemmas.Option.{same_Some}
use Rattle.std.proofs.lemmas.Result.{err_from_is_err_and}
use Rattle.domains.specs.declared.area.Area.{Area}
use Rattle.pipe_tree.specs.Tree.{Declaration, declaration, declarations}
use Rattle.pipe_checks.specs.declared.symbol.Symbol.{Symbol}
use Rattle.pipe_bounds.specs.declared.fault.BoundFault.TheVariants.{Memory}
use Rattle.pipe_bounds.specs.InBounds.{IsFirstCase, StageStays, StaysAt, declared_cases, stage_cases}
use Rattle.pipe_bounds.specs.StageBounds.{HasBoxes, domains_in}
use Rattle.pipe_bounds.specs.inside.Taken.{InDomainRanges}
use Rattle.pipe_bounds.proofs.Firsts.{first_stage}
use Rattle.pipe_bounds.proofs.Spanning.{near_domain}
use Rattle.pipe_bounds.proofs.Stages.{bounds_here, domain_here}
use Rattle.pipe_checks.proofs.Places.{all_of_them, declaration_at}
use Rattle.domains.proofs.Places.{all_more, here_is}
use Rattle.pipe_bounds.proofs.within.check_bounds_of_all_stage_reads.Goals as goal

pub check_item_reads-requires-clause-near : goal.check_item_reads-requires-clause-near
check_item_reads-requires-clause-near c =
    let ds = declarations c.args.items.now in
    let k = c.loop-stage.stage in
    let s = c.index-stages-stage.result in
    let stage = here_is c.args.stages.now c.args.stages.now k s refl c.loop-stage-test.true c.index-stages-stage.is in
    let item =
    declaration_at c.args.items.now s.item c.index-items-declared.result
    (omega (arith, c.requires.declared k s stage, length-map c.args.items.now declaration)) c.index-items-declared.is in
    let found =
    here_is c.args.found.now c.args.found.now k c.index-found-stage.result refl
    (omega (arith, c.requires.found.each, c.loop-stage-test.true)) c.index-found-stage.is in
    let here =
    bounds_here c.args.params.now ds c.args.stages.now c.args.found.now k s (declaration c.index-items-declared.result)
    c.index-found-stage.result c.requires.found stage item found in
    subst InDomainRanges (sym c.domain.ensures)
    (near_domain c.args.params.now (declaration c.index-items-declared.result) c.index-found-stage.result.domain here.domain)

pub check_item_reads-requires-clause-boxes : goal.check_item_reads-requires-clause-boxes
check_item_reads-requires-clause-boxes c =
    let ss = c.args.params.now in
    let d = declaration c.index-items-declared.result in
    let k = c.loop-stage.stage in
    let s = c.index-stages-stage.result in
    let b = c.index-found-stage.result in
    let stage = here_is c.args.stages.now c.args.stages.now k s refl c.loop-stage-test.true c.index-stages-stage.is in
    let item =
    declaration_at c.args.items.now s.item c.index-items-declared.result
    (omega (arith, c.requires.declared k s stage, length-map c.args.items.now declaration)) c.index-items-declared.is in
    let found =
    here_is c.args.found.now c.args.found.now k c.index-found-stage.result refl
    (omega (arith, c.requires.found.each, c.loop-stage-test.true)) c.index-found-stage.is in
    let here =
    bounds_here ss (declarations c.args.items.now) c.args.stages.now c.args.found.now k s d c.index-found-stage.result c.requires.found
    stage item found in
    subst (λ (os : List (Option Area)). HasBoxes ss d c.domain.result.now os) (sym c.boxes.ensures)
    (subst (λ (a : Area). HasBoxes ss d a b.boxes) (sym c.domain.ensures) here.boxes)

pub returns-in_err-check_item_reads : goal.returns-in_err-check_item_reads
returns-in_err-check_item_reads c =
    let ss = c.args.params.now in
    let ds = declarations c.args.items.now in
    let areas = domains_in c.args.found.now in
    let k = c.loop-stage.stage in
    let s = c.index-stages-stage.result in
    let a = c.domain.result.now in
    let f = c.in_err-check_item_reads.field-0.0 in
    let stage = here_is c.args.stages.now c.args.stages.now k s refl c.loop-stage-test.true c.index-stages-stage.is in
    let found =
    here_is c.args.found.now c.args.found.now k c.index-found-stage.result refl
    (omega (arith, c.requires.found.each, c.loop-stage-test.true)) c.index-found-stage.is in
    let area = domain_here c.args.found.now k c.index-found-stage.result a found c.domain.ensures in
    let item =
    declaration_at c.args.items.now s.item c.index-items-declared.result
    (omega (arith, c.requires.declared k s stage, length-map c.args.items.now declaration)) c.index-items-declared.is in
    let fault =
    subst (λ (o : Option Declaration). (f ≡ Memory) ⊎ IsFirstCase ss areas a (declared_cases c.args.stages.now o) k f) (sym item)
    c.in_err-check_item_reads.ensures in
    let p = err_from_is_err_and c.from_residual.result c.from_residual.ensures.1 in
    rw (p.1, p.2) (first_stage ss ds c.args.stages.now areas k s a f stage area c.loop-stage.invariant fault)

pub loop-stage-preserved : goal.loop-stage-preserved
loop-stage-preserved c =
    let ss = c.args.params.now in
    let ds = declarations c.args.items.now in
    let stages = c.args.stages.now in
    let areas = domains_in c.args.found.now in
    let k = c.loop-stage.stage in
    let s = c.index-stages-stage.result in
    let a = c.domain.result.now in
    let stage = here_is stages stages k s refl c.loop-stage-test.true c.index-stages-stage.is in
    let found =
    here_is c.args.found.now c.args.found.now k c.index-found-stage.result refl
    (omega (arith, c.requires.found.each, c.loop-stage-test.true)) c.index-found-stage.is in
    let area = domain_here c.args.found.now k c.index-found-stage.result a found c.domain.ensures in
    let item =
    declaration_at c.args.items.now s.item c.index-items-declared.result
    (omega (arith, c.requires.declared k s stage, length-map c.args.items.now declaration)) c.index-items-declared.is in
    let stays = subst (λ (o : Option Declaration). StageStays ss areas a (declared_cases stages o)) (sym item) c.in_ok-check_item_reads.ensures in
    all_more (λ i (y : Symbol). StaysAt ss ds stages areas i y) stages k s stage
    (λ domain has. subst (λ (x : Area). StageStays ss areas x (stage_cases ds stages s)) (same_Some a domain (sym area ∙ has)) stays)
    c.loop-stage.invariant

pub returns : goal.returns
returns c =
    all_of_them
    (λ k (s : Symbol). StaysAt c.args.params.now (declarations c.args.items.now) c.args.stages.now (domains_in c.args.found.now) k s)
    c.args.stages.now c.loop-stage.stage c.loop-stage-test.false c.loop-stage.invariant
