use Rattle.std.proofs.Common.{rules, ◌≡◌, ◌+ℤ◌, ◌*ℤ◌, ◌≤ℤ◌, ℤ, pos, w16, FitsSigned, sym, subst}
use Rattle.std.proofs.lemmas.Int.{to_z-of_z}
use Rattle.narrow_kernels.proofs.NarrowMeans.{ninths_most, ninths_least}
use Rattle.narrow_kernels.proofs.narrow_means.estimate_narrow_ninth_of_three.Goals as goal

pub returns-clause-most : goal.returns-clause-most
returns-clause-most c =
    let s = c.add_three_small_narrow_numbers in
    let x = c.estimate_narrow_ninth in
    let y = c.estimate_narrow_ninth-2 in
    let z = c.estimate_narrow_ninth-3 in
    let a_fits : FitsSigned w16 c.args.a = search rules in
    let b_fits : FitsSigned w16 c.args.b = search rules in
    let c_fits : FitsSigned w16 c.args.c = search rules in
    let s_fits : FitsSigned w16 s.result = search rules in
    let x_fits : FitsSigned w16 x.result = search rules in
    let y_fits : FitsSigned w16 y.result = search rules in
    let z_fits : FitsSigned w16 z.result = search rules in
    let is : s.result ≡ x.result +ℤ y.result +ℤ z.result = simp to_z-of_z at s.ensures in
    let u : (pos 9 *ℤ x.result) ≤ℤ c.args.a = simp to_z-of_z at x.ensures.most in
    let v : (pos 9 *ℤ y.result) ≤ℤ c.args.b = simp to_z-of_z at y.ensures.most in
    let w : (pos 9 *ℤ z.result) ≤ℤ c.args.c = simp to_z-of_z at z.ensures.most in
    subst (λ (n : ℤ). (pos 9 *ℤ n) ≤ℤ (c.args.a +ℤ c.args.b +ℤ c.args.c)) (sym (to_z-of_z w16 s.result s_fits))
    (ninths_most c.args.a c.args.b c.args.c x.result y.result z.result s.result is u v w)

pub returns-clause-least : goal.returns-clause-least
returns-clause-least c =
    let s = c.add_three_small_narrow_numbers in
    let x = c.estimate_narrow_ninth in
    let y = c.estimate_narrow_ninth-2 in
    let z = c.estimate_narrow_ninth-3 in
    let a_fits : FitsSigned w16 c.args.a = search rules in
    let b_fits : FitsSigned w16 c.args.b = search rules in
    let c_fits : FitsSigned w16 c.args.c = search rules in
    let s_fits : FitsSigned w16 s.result = search rules in
    let x_fits : FitsSigned w16 x.result = search rules in
    let y_fits : FitsSigned w16 y.result = search rules in
    let z_fits : FitsSigned w16 z.result = search rules in
    let is : s.result ≡ x.result +ℤ y.result +ℤ z.result = simp to_z-of_z at s.ensures in
    let u : c.args.a ≤ℤ (pos 9 *ℤ x.result +ℤ pos 9) = simp to_z-of_z at x.ensures.least in
    let v : c.args.b ≤ℤ (pos 9 *ℤ y.result +ℤ pos 9) = simp to_z-of_z at y.ensures.least in
    let w : c.args.c ≤ℤ (pos 9 *ℤ z.result +ℤ pos 9) = simp to_z-of_z at z.ensures.least in
    subst (λ (n : ℤ). (c.args.a +ℤ c.args.b +ℤ c.args.c) ≤ℤ (pos 9 *ℤ n +ℤ pos 27)) (sym (to_z-of_z w16 s.result s_fits))
    (ninths_least c.args.a c.args.b c.args.c x.result y.result z.result s.result is u v w)
