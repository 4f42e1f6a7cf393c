use Rattle.std.proofs.Common.{rules, ℤ, ◌≡◌, ◌+ℤ◌, ◌*ℤ◌, pos, to_z, of_z, w16, w32, FitsSigned, length, subst, sym, ap, ◌∙◌}
use Rattle.std.specs.Int.{int_wrap}
use Rattle.std.proofs.lemmas.Int.{to_z-of_z, SFits-int_wrap}
use Rattle.row_loops.specs.Rows.{at}
use Rattle.narrow_sums.proofs.NarrowAddends.{gives_same, product_wrapped, product_none}
use Rattle.narrow_sums.proofs.narrow_sum.NarrowSum.push_narrow_sum_product.Goals as goal

pub returns-then-factor-ne0-clause-sum : goal.returns-then-factor-ne0-clause-sum
returns-then-factor-ne0-clause-sum c = λ f h.
    let fits : FitsSigned w32 c.args.factor = search rules in
    let wrapped : c.wrap_factor_to_narrow_number-factor.result ≡ int_wrap w16 c.args.factor =
    c.wrap_factor_to_narrow_number-factor.ensures ∙ ap (int_wrap w16) (to_z-of_z w32 c.args.factor fits) in
    let short : FitsSigned w16 c.wrap_factor_to_narrow_number-factor.result =
    subst (λ (z : ℤ). FitsSigned w16 z) (sym wrapped) (SFits-int_wrap w16 c.args.factor) in
    let kept = to_z-of_z w16 c.wrap_factor_to_narrow_number-factor.result short in
    gives_same (length c.args.out.now)
    (λ k. f k +ℤ to_z w16 (of_z w16 c.wrap_factor_to_narrow_number-factor.result) *ℤ at c.args.line.now k)
    (λ k. f k +ℤ c.args.factor *ℤ at c.args.line.now k) c.push_narrow_sum_tap.new.self c.push_narrow_sum_tap.new.out
    (λ k l. product_wrapped (f k) c.args.factor _ (at c.args.line.now k) (kept ∙ wrapped))
    (c.push_narrow_sum_tap.ensures.sum f h)

pub returns-else-factor-ne0-clause-sum : goal.returns-else-factor-ne0-clause-sum
returns-else-factor-ne0-clause-sum c = λ f h.
    let fits : FitsSigned w32 c.args.factor = search rules in
    let none : c.args.factor ≡ pos 0 = sym (to_z-of_z w32 c.args.factor fits) ∙ ap (to_z w32) c.if-factor-ne0.false in
    gives_same (length c.args.out.now) f (λ k. f k +ℤ c.args.factor *ℤ at c.args.line.now k) c.args.self.now c.args.out.now
    (λ k l. product_none (f k) c.args.factor (at c.args.line.now k) none) h
