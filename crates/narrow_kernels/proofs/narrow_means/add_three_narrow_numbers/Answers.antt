use Rattle.std.proofs.Common.{rules, ◌≡◌, ◌+ℤ◌, ◌*ℤ◌, ◌≤ℤ◌, ℤ, pos, negsuc, w16, FitsSigned, to_z, of_z, sym, subst}
use Rattle.std.specs.Int.{int_wrap}
use Rattle.std.proofs.lemmas.Int.{to_z-of_z}
use Rattle.narrow_kernels.specs.NarrowMeans.{IsColumnSum}
use Rattle.narrow_kernels.proofs.NarrowMeans.{rest_is, parts_are}
use Rattle.narrow_kernels.proofs.narrow_means.add_three_narrow_numbers.Goals as goal

pub returns : goal.returns
returns c =
    let ninth = c.estimate_narrow_ninth_of_three-ninth in
    let rest = c.subtract_narrow_ninth_of_three in
    let sum : ℤ = c.args.a +ℤ c.args.b +ℤ c.args.c in
    let x : FitsSigned w16 c.args.a = search rules in
    let y : FitsSigned w16 c.args.b = search rules in
    let z : FitsSigned w16 c.args.c = search rules in
    let n : FitsSigned w16 ninth.result = search rules in
    let r : FitsSigned w16 rest.result = search rules in
    let most : (pos 9 *ℤ ninth.result) ≤ℤ sum = simp to_z-of_z at ninth.ensures.most in
    let least : sum ≤ℤ (pos 9 *ℤ ninth.result +ℤ pos 27) = simp to_z-of_z at ninth.ensures.least in
    let is : rest.result ≡ int_wrap w16 (sum +ℤ ninth.result *ℤ negsuc 8) = simp to_z-of_z at rest.ensures in
    subst (λ (v : ℤ). IsColumnSum sum v (to_z w16 (of_z w16 rest.result))) (sym (to_z-of_z w16 _ n))
    (subst (λ (v : ℤ). IsColumnSum sum ninth.result v) (sym (to_z-of_z w16 _ r))
    (parts_are c.args.a c.args.b c.args.c ninth.result rest.result x y z most least (rest_is sum ninth.result rest.result is most least)))
