use Rattle.std.proofs.Common.{◌≡◌, ◌∙◌, ◌++◌, [], ◌∷◌, ap, cond, inr, Some, List, slice_get, sym, refl, subst, arith, rules}
use Rattle.std.proofs.lemmas.List.{length-map}
use Rattle.std.proofs.lemmas.Option.{same_Some}
use Rattle.domains.proofs.Places.{here_is}
use Rattle.pipe_tree.specs.Tree.{Declaration, declaration, declarations}
use Rattle.pipe_checks.specs.declared.symbol.Symbol.{Symbol}
use Rattle.pipe_checks.proofs.Places.{declaration_at}
use Rattle.pipe_checks.proofs.Unknown.{pushed}
use Rattle.pipe_bounds.specs.StageBounds.{StageBounds, IsBoundsOf}
use Rattle.pipe_bounds.proofs.Stages.{domains_before}
use Rattle.pipe_bounds.proofs.finding.collect_stage_bounds.Goals as goal

pub loop-stage-preserved : goal.loop-stage-preserved
loop-stage-preserved c =
    let ss = c.args.params.now in
    let ds = declarations c.args.items.now in
    let stages = c.args.stages.now in
    let k = c.loop-stage.stage in
    let s = c.index-stages-stage.result in
    let b = c.in_ok-bounds-in-Ok.bounds in
    let there = here_is stages stages k s refl c.loop-stage-test.true c.index-stages-stage.is in
    let item =
    declaration_at c.args.items.now s.item c.index-items-declared.result
    (omega (arith, c.requires k s there, length-map c.args.items.now declaration)) c.index-items-declared.is in
    let more = pushed (λ k (b : StageBounds). (s : Symbol) → slice_get stages k ≡ Some s
    → (d : Declaration) × (slice_get ds s.item ≡ Some d) × IsBoundsOf ss d b) c.loop-stage.found.items k b c.loop-stage.invariant.each
    (λ k b p s q. c.loop-stage.invariant.stage k s b q p)
    (λ t q. subst (λ (x : Symbol). (d : Declaration) × (slice_get ds x.item ≡ Some d) × IsBoundsOf ss d b) (same_Some s t (sym there ∙ q))
    (declaration c.index-items-declared.result, item, c.in_ok-bounds-in-Ok.ensures)) in
    let found = c.loop-stage.found.items in
    let longer = c.push.ensures.items ∙ ap (λ t. cond t (found ++ (b ∷ [])) found) (sym c.in_ok-map_err-in-Ok.ensures.variant) in
    record { each = search rules; stage = λ k s b q p. more k b (subst (λ (xs : List StageBounds). slice_get xs k ≡ Some b) longer p) s q }

pub returns-in-Err : goal.returns-in-Err
returns-in-Err c =
    let stages = c.args.stages.now in
    let s = c.index-stages-stage.result in
    let there = here_is stages stages c.loop-stage.stage s refl c.loop-stage-test.true c.index-stages-stage.is in
    let item =
    declaration_at c.args.items.now s.item c.index-items-declared.result
    (omega (arith, c.requires c.loop-stage.stage s there, length-map c.args.items.now declaration)) c.index-items-declared.is in
    inr (record {
      fault = c.in-Err.fault;
      stage = c.loop-stage.stage;
      told = c.stage_domain_fault.ensures;
      first = record {
        stage = s;
        there = there;
        faulty = (declaration c.index-items-declared.result, item, c.in-Err.ensures);
        before =
            domains_before c.args.params.now (declarations c.args.items.now) stages c.loop-stage.found.items c.loop-stage.stage
            c.loop-stage.invariant.each c.loop-stage.invariant.stage;
      };
    })
