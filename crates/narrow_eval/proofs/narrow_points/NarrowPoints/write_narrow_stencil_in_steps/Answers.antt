use Rattle.std.proofs.Common.{arith, rules, ℕ, ℤ, ◌≡◌, ◌<◌, ◌*◌, ◌+ℤ◌, ◌-ℤ◌, pos, to_z, length, w16, FitsSigned, sym, ap, subst, ◌∙◌}
use Rattle.std.specs.Int.{int_wrap}
use Rattle.std.proofs.lemmas.Int.{ints, to_z-of_z}
use Rattle.domains.specs.Arithmetic.{wrapped, floor_div}
use Rattle.job.specs.Values.{weighted_sum}
use Rattle.value_ranges.specs.Narrow.{Fits16}
use Rattle.narrow_sums.proofs.NarrowFormulas.{stepped_quotient_fits}
use Rattle.narrow_eval.proofs.NarrowStencils.{value_in_steps, value_without_steps, wrapped_value}
use Rattle.narrow_eval.proofs.narrow_points.NarrowPoints.write_narrow_stencil_in_steps.Goals as goal

pub write_narrow_binary_results-requires-clause-fits : goal.write_narrow_binary_results-requires-clause-fits
write_narrow_binary_results-requires-clause-fits g c = λ k h.
    let len : length c.write_narrow_stencil_quotients.new.out ≡ length c.args.out.now = c.write_narrow_stencil_quotients.auto.out in
    let l : k < length c.args.out.now = omega (arith, len, h) in
    let few = c.requires.few in
    let some : 0 < c.args.divisor = search rules in
    let steps : to_z w16 c.args.steps ≡ pos c.args.steps = omega (arith, ints, few) in
    let number : FitsSigned w16 c.negate_narrow_stencil_number-number.result = search rules in
    let made = simp to_z-of_z at c.write_narrow_stencil_quotients.ensures in
    let narrow = c.requires.narrow k l in
    let rest : Fits16 (wrapped (weighted_sum c.args.kernel.now (g.S.NarrowSource.samples c.args.self.now.source.now c.args.stage) c.args.self.now.points.row (c.args.self.now.points.col +ℤ pos k)) -ℤ pos (c.args.steps * c.args.divisor)) =
    subst (λ (m : ℕ). Fits16 (wrapped (weighted_sum c.args.kernel.now (g.S.NarrowSource.samples c.args.self.now.source.now c.args.stage) c.args.self.now.points.row (c.args.self.now.points.col +ℤ pos k)) -ℤ pos (m * c.args.divisor))) (sym c.requires.steps) narrow in
    let whole = ap (λ (y : ℤ). y +ℤ to_z w16 c.args.steps) (made k l) ∙ ap (λ (y : ℤ). floor_div (int_wrap w16 ((weighted_sum c.args.kernel.now (g.S.NarrowSource.samples c.args.self.now.source.now c.args.stage) c.args.self.now.points.row (c.args.self.now.points.col +ℤ pos k)) +ℤ c.negate_narrow_stencil_number-number.result)) (pos c.args.divisor) +ℤ y) steps
    ∙ value_in_steps (weighted_sum c.args.kernel.now (g.S.NarrowSource.samples c.args.self.now.source.now c.args.stage) c.args.self.now.points.row (c.args.self.now.points.col +ℤ pos k)) _ c.args.steps c.args.divisor some c.negate_narrow_stencil_number-number.ensures rest in
    let fits = stepped_quotient_fits (wrapped (weighted_sum c.args.kernel.now (g.S.NarrowSource.samples c.args.self.now.source.now c.args.stage) c.args.self.now.points.row (c.args.self.now.points.col +ℤ pos k))) c.args.divisor narrow in
    subst (λ (z : ℤ). FitsSigned w16 z) (sym (ap wrapped whole ∙ wrapped_value _ fits)) fits

pub returns-then-steps-gt0 : goal.returns-then-steps-gt0
returns-then-steps-gt0 g c = λ k l.
    let len : length c.write_narrow_stencil_quotients.new.out ≡ length c.args.out.now = c.write_narrow_stencil_quotients.auto.out in
    let h : k < length c.write_narrow_stencil_quotients.new.out = omega (arith, len, l) in
    let few = c.requires.few in
    let some : 0 < c.args.divisor = search rules in
    let steps : to_z w16 c.args.steps ≡ pos c.args.steps = omega (arith, ints, few) in
    let number : FitsSigned w16 c.negate_narrow_stencil_number-number.result = search rules in
    let made = simp to_z-of_z at c.write_narrow_stencil_quotients.ensures in
    let narrow = c.requires.narrow k l in
    let rest : Fits16 (wrapped (weighted_sum c.args.kernel.now (g.S.NarrowSource.samples c.args.self.now.source.now c.args.stage) c.args.self.now.points.row (c.args.self.now.points.col +ℤ pos k)) -ℤ pos (c.args.steps * c.args.divisor)) =
    subst (λ (m : ℕ). Fits16 (wrapped (weighted_sum c.args.kernel.now (g.S.NarrowSource.samples c.args.self.now.source.now c.args.stage) c.args.self.now.points.row (c.args.self.now.points.col +ℤ pos k)) -ℤ pos (m * c.args.divisor))) (sym c.requires.steps) narrow in
    let whole = ap (λ (y : ℤ). y +ℤ to_z w16 c.args.steps) (made k l) ∙ ap (λ (y : ℤ). floor_div (int_wrap w16 ((weighted_sum c.args.kernel.now (g.S.NarrowSource.samples c.args.self.now.source.now c.args.stage) c.args.self.now.points.row (c.args.self.now.points.col +ℤ pos k)) +ℤ c.negate_narrow_stencil_number-number.result)) (pos c.args.divisor) +ℤ y) steps
    ∙ value_in_steps (weighted_sum c.args.kernel.now (g.S.NarrowSource.samples c.args.self.now.source.now c.args.stage) c.args.self.now.points.row (c.args.self.now.points.col +ℤ pos k)) _ c.args.steps c.args.divisor some c.negate_narrow_stencil_number-number.ensures rest in
    let fits = stepped_quotient_fits (wrapped (weighted_sum c.args.kernel.now (g.S.NarrowSource.samples c.args.self.now.source.now c.args.stage) c.args.self.now.points.row (c.args.self.now.points.col +ℤ pos k))) c.args.divisor narrow in
    c.write_narrow_binary_results.ensures k h ∙ ap wrapped whole ∙ wrapped_value _ fits

pub returns-else-steps-gt0 : goal.returns-else-steps-gt0
returns-else-steps-gt0 g c = λ k l.
    let none : c.args.steps ≡ 0 = search rules in
    let some : 0 < c.args.divisor = search rules in
    let number : FitsSigned w16 c.negate_narrow_stencil_number-number.result = search rules in
    let made = simp to_z-of_z at c.write_narrow_stencil_quotients.ensures in
    let rest : Fits16 (wrapped (weighted_sum c.args.kernel.now (g.S.NarrowSource.samples c.args.self.now.source.now c.args.stage) c.args.self.now.points.row (c.args.self.now.points.col +ℤ pos k)) -ℤ pos (c.args.steps * c.args.divisor)) =
    subst (λ (m : ℕ). Fits16 (wrapped (weighted_sum c.args.kernel.now (g.S.NarrowSource.samples c.args.self.now.source.now c.args.stage) c.args.self.now.points.row (c.args.self.now.points.col +ℤ pos k)) -ℤ pos (m * c.args.divisor))) (sym c.requires.steps) (c.requires.narrow k l) in
    made k l ∙ value_without_steps (weighted_sum c.args.kernel.now (g.S.NarrowSource.samples c.args.self.now.source.now c.args.stage) c.args.self.now.points.row (c.args.self.now.points.col +ℤ pos k)) _ c.args.steps c.args.divisor some none c.negate_narrow_stencil_number-number.ensures rest
