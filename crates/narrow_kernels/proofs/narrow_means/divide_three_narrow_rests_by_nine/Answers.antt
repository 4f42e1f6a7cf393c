use Rattle.std.proofs.Common.{rules, ◌≡◌, ◌+ℤ◌, ◌*ℤ◌, ◌≤ℤ◌, ℤ, pos, w16, FitsSigned, sym, subst}
use Rattle.std.proofs.lemmas.Int.{to_z-of_z}
use Rattle.narrow_kernels.proofs.narrow_means.divide_three_narrow_rests_by_nine.Goals as goal

pub returns-clause-most : goal.returns-clause-most
returns-clause-most c =
    let d = c.divide_small_narrow_number_by_nine in
    let s = c.add_three_small_narrow_numbers in
    let sum : ℤ = c.args.a +ℤ c.args.b +ℤ c.args.c in
    let a_fits : FitsSigned w16 c.args.a = search rules in
    let b_fits : FitsSigned w16 c.args.b = search rules in
    let c_fits : FitsSigned w16 c.args.c = search rules in
    let s_fits : FitsSigned w16 s.result = search rules in
    let d_fits : FitsSigned w16 d.result = search rules in
    let is : s.result ≡ sum = simp to_z-of_z at s.ensures in
    let most : (pos 9 *ℤ d.result) ≤ℤ s.result = simp to_z-of_z at d.ensures.most in
    subst (λ (n : ℤ). (pos 9 *ℤ n) ≤ℤ sum) (sym (to_z-of_z w16 d.result d_fits))
    (subst (λ (n : ℤ). (pos 9 *ℤ d.result) ≤ℤ n) is most)

pub returns-clause-least : goal.returns-clause-least
returns-clause-least c =
    let d = c.divide_small_narrow_number_by_nine in
    let s = c.add_three_small_narrow_numbers in
    let sum : ℤ = c.args.a +ℤ c.args.b +ℤ c.args.c in
    let a_fits : FitsSigned w16 c.args.a = search rules in
    let b_fits : FitsSigned w16 c.args.b = search rules in
    let c_fits : FitsSigned w16 c.args.c = search rules in
    let s_fits : FitsSigned w16 s.result = search rules in
    let d_fits : FitsSigned w16 d.result = search rules in
    let is : s.result ≡ sum = simp to_z-of_z at s.ensures in
    let least : s.result ≤ℤ (pos 9 *ℤ d.result +ℤ pos 8) = simp to_z-of_z at d.ensures.least in
    subst (λ (n : ℤ). sum ≤ℤ (pos 9 *ℤ n +ℤ pos 8)) (sym (to_z-of_z w16 d.result d_fits))
    (subst (λ (n : ℤ). n ≤ℤ (pos 9 *ℤ d.result +ℤ pos 8)) is least)
