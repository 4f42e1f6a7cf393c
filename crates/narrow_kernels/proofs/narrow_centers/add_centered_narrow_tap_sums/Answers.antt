use Rattle.std.proofs.Common.{rules, arith, ◌<◌, ◌+ℤ◌, ◌*ℤ◌, ℤ, length, ap, refl, ◌∙◌, w16, FitsSigned, to_z, of_z}
use Rattle.std.specs.Int.{int_wrap}
use Rattle.std.proofs.lemmas.Int.{to_z-of_z}
use Rattle.row_loops.specs.Rows.{at}
use Rattle.narrow_kernels.specs.declared.narrow_taps.NarrowTap.{NarrowTap}
use Rattle.narrow_kernels.specs.NarrowNearTaps.{near_tap_at, near_tap_sum}
use Rattle.narrow_kernels.proofs.NarrowCenters.{centered_row_is}
use Rattle.narrow_kernels.proofs.NarrowSums.{same_sum}
use Rattle.narrow_kernels.proofs.narrow_centers.add_centered_narrow_tap_sums.Goals as goal

pub map_narrow_term-requires-clause-has : goal.map_narrow_term-requires-clause-has
map_narrow_term-requires-clause-has c = λ k l.
    let own : k < length c.args.center.line.now = omega (arith, l, c.requires.center.line) in
    let both = c.in-Some.ensures.has (length c.args.out.now) c.requires.center c.requires.taps in
    ((tt, own), (both.0 k l, both.1 k l))

pub returns-in-Some : goal.returns-in-Some
returns-in-Some c = λ k h s e.
    let fits : FitsSigned w16 c.negate_sum_of_narrow_tap_factors.result = search rules in
    let own : ℤ = to_z w16 (of_z w16 c.negate_sum_of_narrow_tap_factors.result) in
    c.map_narrow_term.ensures k h
    ∙ ap (λ (z : ℤ). int_wrap w16 ((at c.args.out.now k +ℤ own *ℤ at c.args.center.line.now k) +ℤ z)) (c.in-Some.ensures.exact k)
    ∙ centered_row_is c.args.center c.args.taps.now k own s (at c.args.out.now k) e
    (to_z-of_z w16 c.negate_sum_of_narrow_tap_factors.result fits ∙ c.negate_sum_of_narrow_tap_factors.ensures)

pub returns-in-None : goal.returns-in-None
returns-in-None c = λ k h s e.
    let fits : FitsSigned w16 c.negate_sum_of_narrow_tap_factors.result = search rules in
    let own : ℤ = to_z w16 (of_z w16 c.negate_sum_of_narrow_tap_factors.result) in
    c.map_narrow_terms.ensures k h
    ∙ ap (λ (z : ℤ). int_wrap w16 ((at c.args.out.now k +ℤ own *ℤ at c.args.center.line.now k) +ℤ z))
    (same_sum (λ (tap : NarrowTap). near_tap_at c.args.center tap k) (λ taps. near_tap_sum c.args.center taps k) refl (λ x xs. refl) c.args.taps.now)
    ∙ centered_row_is c.args.center c.args.taps.now k own s (at c.args.out.now k) e
    (to_z-of_z w16 c.negate_sum_of_narrow_tap_factors.result fits ∙ c.negate_sum_of_narrow_tap_factors.ensures)
