use Rattle.std.proofs.Common.{rules, ℕ, ℤ, ◌≡◌, ◌+ℤ◌, ◌*ℤ◌, get_or, [], pos, ap, sym, ◌∙◌, w16, FitsSigned, to_z, of_z}
use Rattle.std.proofs.lemmas.Int.{to_z-of_z}
use Rattle.narrow_kernels.specs.declared.narrow_taps.NarrowTap.{NarrowTap}
use Rattle.narrow_kernels.specs.NarrowNearTaps.{near_line_at}
use Rattle.narrow_kernels.proofs.NarrowCenters.{quad_of_taps}
use Rattle.narrow_kernels.proofs.narrow_centers.match_four_near_narrow_taps.Goals as goal

-- numbers of 16 bits that are the same bits
same_number : (x y : ℤ) → FitsSigned w16 x → FitsSigned w16 y → of_z w16 x ≡ of_z w16 y → x ≡ y
same_number x y fx fy e = sym (to_z-of_z w16 x fx) ∙ ap (to_z w16) e ∙ to_z-of_z w16 y fy

pub returns-in-len4-clause-exact : goal.returns-in-len4-clause-exact
returns-in-len4-clause-exact c = λ k.
    let none : NarrowTap = record { line = record { ref_ptr = (0, 0); now = [] }; factor = pos 0 } in
    let tap : ℕ → NarrowTap = λ n. get_or c.args.taps.now n none in
    let a : FitsSigned w16 (tap 0).factor = search rules in
    let b : FitsSigned w16 (tap 1).factor = search rules in
    let d : FitsSigned w16 (tap 2).factor = search rules in
    let e : FitsSigned w16 (tap 3).factor = search rules in
    let line : ℕ → ℤ = λ n. near_line_at c.args.center (tap n).line.now k in
    ap (λ (z : ℤ). z *ℤ ((line 0 +ℤ line 1) +ℤ (line 2 +ℤ line 3))) (to_z-of_z w16 (tap 0).factor a)
    ∙ quad_of_taps c.args.center c.args.taps.now k none c.in-len4.len_at_least c.in-len4.len_below
    (same_number (tap 0).factor (tap 1).factor a b c.if-a-b.true)
    (same_number (tap 0).factor (tap 2).factor a d c.if-a-c.true)
    (same_number (tap 0).factor (tap 3).factor a e c.if-a-d.true)
