use Rattle.std.proofs.Common.{rules, ◌≡◌, ◌+ℤ◌, ◌*ℤ◌, ◌≤ℤ◌, ℤ, pos, w16, FitsSigned, to_z, of_z, ◌∙◌, sym, subst}
use Rattle.std.proofs.lemmas.Int.{to_z-of_z}
use Rattle.narrow_kernels.proofs.NarrowMeans.{ninth_of_parts, mean_fits}
use Rattle.narrow_kernels.proofs.narrow_means.compute_narrow_mean_of_parts.Goals as goal

pub returns : goal.returns
returns c =
    let rest = c.divide_three_narrow_rests_by_nine in
    let fits : FitsSigned w16 c.add_three_narrow_ninths.result = search rules in
    let n : FitsSigned w16 rest.result = search rules in
    let qa : FitsSigned w16 c.args.a.0 = search rules in
    let qb : FitsSigned w16 c.args.b.0 = search rules in
    let qc : FitsSigned w16 c.args.c.0 = search rules in
    let ra : FitsSigned w16 c.args.a.1 = search rules in
    let rb : FitsSigned w16 c.args.b.1 = search rules in
    let rc : FitsSigned w16 c.args.c.1 = search rules in
    let most : (pos 9 *ℤ rest.result) ≤ℤ (c.args.a.1 +ℤ c.args.b.1 +ℤ c.args.c.1) = simp to_z-of_z at rest.ensures.most in
    let least : (c.args.a.1 +ℤ c.args.b.1 +ℤ c.args.c.1) ≤ℤ (pos 9 *ℤ rest.result +ℤ pos 8) = simp to_z-of_z at rest.ensures.least in
    let is : c.add_three_narrow_ninths.result ≡ rest.result +ℤ (c.args.a.0 +ℤ c.args.b.0 +ℤ c.args.c.0) = simp to_z-of_z at c.add_three_narrow_ninths.ensures in
    to_z-of_z w16 _ fits ∙ ninth_of_parts _ _ rest.result _ most least is

pub add_three_narrow_ninths-requires-clause-fits : goal.add_three_narrow_ninths-requires-clause-fits
add_three_narrow_ninths-requires-clause-fits c =
    let rest = c.divide_three_narrow_rests_by_nine in
    let n : FitsSigned w16 rest.result = search rules in
    let qa : FitsSigned w16 c.args.a.0 = search rules in
    let qb : FitsSigned w16 c.args.b.0 = search rules in
    let qc : FitsSigned w16 c.args.c.0 = search rules in
    let ra : FitsSigned w16 c.args.a.1 = search rules in
    let rb : FitsSigned w16 c.args.b.1 = search rules in
    let rc : FitsSigned w16 c.args.c.1 = search rules in
    let most : (pos 9 *ℤ rest.result) ≤ℤ (c.args.a.1 +ℤ c.args.b.1 +ℤ c.args.c.1) = simp to_z-of_z at rest.ensures.most in
    let least : (c.args.a.1 +ℤ c.args.b.1 +ℤ c.args.c.1) ≤ℤ (pos 9 *ℤ rest.result +ℤ pos 8) = simp to_z-of_z at rest.ensures.least in
    let same : to_z w16 (of_z w16 rest.result) +ℤ (to_z w16 (of_z w16 c.args.a.0) +ℤ to_z w16 (of_z w16 c.args.b.0) +ℤ to_z w16 (of_z w16 c.args.c.0))
    ≡ rest.result +ℤ (c.args.a.0 +ℤ c.args.b.0 +ℤ c.args.c.0) =
    λ i. to_z-of_z w16 rest.result n i +ℤ (to_z-of_z w16 c.args.a.0 qa i +ℤ to_z-of_z w16 c.args.b.0 qb i +ℤ to_z-of_z w16 c.args.c.0 qc i) in
    subst (λ (v : ℤ). FitsSigned w16 v) (sym same)
    (mean_fits c.args.a.0 c.args.a.1 c.args.b.0 c.args.b.1 c.args.c.0 c.args.c.1 rest.result c.requires.a c.requires.b c.requires.c most least)
