use Rattle.std.proofs.Common.{◌+◌, drop, sym, subst}
use Rattle.std.proofs.lemmas.List.{drop_all}
use Rattle.pipe_bounds.specs.StageBounds.{IsBox}
use Rattle.pipe_bounds.proofs.Cutting.{IsLeft, left_more, left_none}
use Rattle.domains.proofs.Places.{next_of}
use Rattle.pipe_bounds.proofs.boxes.case_box.Goals as goal

pub returns-in_err-left : goal.returns-in_err-left
returns-in_err-left c =
    let ss = c.args.params.now in
    let row = c.args.row.now in
    let tests = c.args.tests.now in
    let i = c.loop-test.test-index in
    let before =
    subst (λ ts. IsLeft ss row c.args.domain.now tests c.loop-test.left ts)
    (next_of tests i c.test-item.result c.loop-test-test.true c.test-item.is) c.loop-test.invariant in
    subst (IsBox ss row c.args.domain.now tests) (sym c.from_residual.ensures)
    (record {
      points =
          left_none ss row c.args.domain.now c.loop-test.left tests (drop (i + 1) tests) c.test-item.result before c.in_err-left.ensures;
      area = tt;
    })

pub loop-test-preserved : goal.loop-test-preserved
loop-test-preserved c =
    let ss = c.args.params.now in
    let row = c.args.row.now in
    let tests = c.args.tests.now in
    let i = c.loop-test.test-index in
    let before =
    subst (λ ts. IsLeft ss row c.args.domain.now tests c.loop-test.left ts)
    (next_of tests i c.test-item.result c.loop-test-test.true c.test-item.is) c.loop-test.invariant in
    left_more ss row c.args.domain.now c.loop-test.left c.in_ok-left.left tests (drop (i + 1) tests) c.test-item.result before
    c.in_ok-left.ensures

pub returns : goal.returns
returns c =
    let ss = c.args.params.now in
    let row = c.args.row.now in
    let tests = c.args.tests.now in
    let all =
    subst (λ ts. IsLeft ss row c.args.domain.now tests c.loop-test.left ts)
    (drop_all c.loop-test.test-index tests c.loop-test-test.false) c.loop-test.invariant in
    record { points = λ r k. ((λ h. (all r k).0 (h, tt)), (λ h. ((all r k).1 h).0)); area = c.points.ensures.within }
