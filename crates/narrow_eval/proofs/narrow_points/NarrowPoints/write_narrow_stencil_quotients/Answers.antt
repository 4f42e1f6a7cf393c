use Rattle.std.proofs.Common.{arith, ℕ, ◌≡◌, ◌<◌, ◌+ℤ◌, pos, add-one, length, ap, sym, subst, refl, rules, w16, FitsSigned}
use Rattle.std.proofs.lemmas.Int.{to_z-of_z}
use Rattle.narrow_eval.specs.NarrowStencils.{rows_below}
use Rattle.narrow_sums.specs.NarrowSums.{HasAddends, GivesSum}
use Rattle.narrow_sums.proofs.NarrowAddends.{no_addends, gives_nothing}
use Rattle.narrow_eval.proofs.narrow_points.NarrowPoints.write_narrow_stencil_quotients.Goals as goal

pub loop-a-init : goal.loop-a-init
loop-a-init g c =
    let is = c.of_no_narrow_addends-sum.ensures in (
      no_addends (length c.args.out.now) c.of_no_narrow_addends-sum.result is.space is.taps is.differences,
      gives_nothing (length c.args.out.now) (λ k. pos 0) c.of_no_narrow_addends-sum.result c.args.out.now is.written is.taps is.differences
          (λ k l. refl),
    )

pub loop-a-preserved : goal.loop-a-preserved
loop-a-preserved g c =
    let len : length c.add_narrow_stencil_row.new.out ≡ length c.loop-a.out = c.add_narrow_stencil_row.auto.out in (
      subst (λ (n : ℕ). HasAddends n c.add_narrow_stencil_row.new.sum) (sym len) c.add_narrow_stencil_row.ensures.addends,
      λ k l. rw add-one (c.add_narrow_stencil_row.ensures.sum c.loop-a.invariant.1 k (subst (λ (n : ℕ). k < n) len l)),
    )

pub returns : goal.returns
returns g c = λ k l.
    let len : length c.loop-a.out ≡ length c.args.out.now = c.loop-a.auto.out in
    let rows = ap length c.as_slice-a-end.ensures in
    let all : c.loop-a.a ≡ length c.args.kernel.now = omega (arith, rows, c.loop-a-test.false, c.loop-a.auto.a-end) in
    let number : FitsSigned w16 c.args.number = search rules in
    let made = simp to_z-of_z at c.divide_narrow_sum.ensures in
    made
    (λ j. rows_below (length c.args.kernel.now) c.args.kernel.now (g.S.NarrowSource.samples c.args.self.now.source.now c.args.stage)
    c.args.self.now.points.row (c.args.self.now.points.col +ℤ pos j))
    (subst (λ (a : ℕ). GivesSum (length c.loop-a.out)
    (λ j. rows_below a c.args.kernel.now (g.S.NarrowSource.samples c.args.self.now.source.now c.args.stage) c.args.self.now.points.row
    (c.args.self.now.points.col +ℤ pos j)) c.loop-a.sum c.loop-a.out) all c.loop-a.invariant.1)
    k (omega (arith, len, l))
