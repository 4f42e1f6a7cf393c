use Rattle.std.proofs.Common.{arith, rules, ℕ, suc, add-one, ◌≡◌, ◌+◌, ◌+ℤ◌, length, sym, ap, subst}
use Rattle.std.specs.Int.{int_wrap}
use Rattle.std.proofs.Common.{w16, w32, FitsSigned}
use Rattle.std.proofs.lemmas.Int.{to_z-of_z}
use Rattle.row_loops.specs.Rows.{at}
use Rattle.std.proofs.Math.IntN.{+ℤ_idr}
use Rattle.narrow_eval.specs.NarrowStencils.{line_total}
use Rattle.narrow_sums.specs.NarrowSums.{HasAddends}
use Rattle.narrow_sums.proofs.NarrowAddends.{gives_same}
use Rattle.narrow_eval.proofs.NarrowStencils.{product_more, part_at}
use Rattle.narrow_eval.proofs.narrow_stencils.add_narrow_stencil_products.Goals as goal

pub loop-b-init : goal.loop-b-init
loop-b-init c = (
  c.requires.addends,
  λ f h. gives_same (length c.args.out.now) f _ c.args.sum.now c.args.out.now (λ k l. ap (int_wrap w16) (sym (+ℤ_idr (f k)))) h,
)

pub loop-b-preserved : goal.loop-b-preserved
loop-b-preserved c =
    let len : length c.push_narrow_sum_product.new.out ≡ length c.loop-b.out = c.push_narrow_sum_product.auto.out in
    let same : length c.loop-b.out ≡ length c.args.out.now = c.loop-b.auto.out in
    let room = c.requires.line in
    let fits : FitsSigned w32 (at c.args.factors.now c.loop-b.b) = search rules in
    let below = c.loop-b-test.true in (
      subst (λ (n : ℕ). HasAddends n c.push_narrow_sum_product.new.self) (sym len) c.push_narrow_sum_product.ensures.addends,
      λ f h.
          rw add-one (gives_same (length c.push_narrow_sum_product.new.out) _
          (λ k. f k +ℤ line_total (suc c.loop-b.b) c.args.factors.now c.args.line.now k) c.push_narrow_sum_product.new.self
          c.push_narrow_sum_product.new.out
          (λ k l. ap (int_wrap w16)
          (product_more (f k) _ _ _ _ _ (to_z-of_z w32 _ fits) (part_at c.loop-b.b (c.loop-b.b + length c.loop-b.out) k c.args.line.now (omega (arith, len, l)) (omega (arith, room, below, same)))))
          (λ k l. c.push_narrow_sum_product.ensures.sum (λ j. f j +ℤ line_total c.loop-b.b c.args.factors.now c.args.line.now j)
          (c.loop-b.invariant.1 f (λ j m. h j (omega (arith, len, m)))) k (omega (arith, len, l)))),
    )
