use Rattle.std.proofs.Common.{◌≡◌, Option, Some, List, slice_get, refl, sym, ◌∙◌, ap, subst, arith, rules}
use Rattle.std.specs.Option.{option_map}
use Rattle.std.proofs.lemmas.List.{length-map}
use Rattle.std.proofs.lemmas.Option.{same_Some, slice_get-map}
use Rattle.domains.specs.declared.area.Area.{Area}
use Rattle.domains.proofs.Places.{here_is}
use Rattle.pipe_tree.specs.Tree.{Branch, branch, branches}
use Rattle.pipe_checks.proofs.Unknown.{pushed}
use Rattle.pipe_bounds.specs.StageBounds.{IsBox}
use Rattle.pipe_bounds.proofs.boxes.case_boxes.Goals as goal

pub loop-case-preserved : goal.loop-case-preserved
loop-case-preserved c =
    let ss = c.args.params.now in
    let cases = c.args.cases.now in
    let i = c.loop-case.case-index in
    let x = c.case-item.result in
    let there : slice_get (branches cases) i ≡ Some (branch x) =
    slice_get-map branch cases i ∙ ap (option_map branch) (here_is cases cases i x refl c.loop-case-test.true c.case-item.is) in
    let here = subst (λ ts. IsBox ss c.args.row.now c.args.domain.now ts c.case_box.result) c.tests.ensures c.case_box.ensures in
    let more = pushed (λ n (o : Option Area). (b : Branch) → slice_get (branches cases) n ≡ Some b
    → IsBox ss c.args.row.now c.args.domain.now b.condition o) c.loop-case.boxes.items i c.case_box.result c.loop-case.invariant.each
    (λ n o at b is. c.loop-case.invariant.box n b o is at)
    (λ b is. subst (λ (y : Branch). IsBox ss c.args.row.now c.args.domain.now y.condition c.case_box.result)
    (same_Some _ _ (sym there ∙ is)) here) in
    record {
      each =
          search rules;
      box =
          λ n b o is at. more n o (subst (λ (xs : List (Option Area)). slice_get xs n ≡ Some o) c.in_ok-push.ensures.items at) b is;
    }

pub returns : goal.returns
returns c =
    let cases = c.args.cases.now in
    record { each = omega (arith, c.loop-case.invariant.each, length-map cases branch); box = c.loop-case.invariant.box }
