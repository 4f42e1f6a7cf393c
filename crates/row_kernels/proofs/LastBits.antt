-- What divisions by powers of two leave.
use Rattle.std.proofs.Common.{arith, ℕ, ℤ, pos, ◌≡◌, ◌<◌, ◌≤◌, ◌^◌, ◌-ℤ◌, ◌*ℤ◌, ◌<ℤ◌, ◌∙◌, ap, FitsSigned, w32, to_z, of_z, negsuc, ◌≤ℤ◌, rules, lit≤}
use Rattle.std.proofs.lemmas.Int.{ints, to_z-of_z, int_wrap-sub_right, int_wrap_fits}
use Rattle.std.proofs.Math.Nat.{one-le-pow, pow-le-pow_right}
use Rattle.domains.specs.Arithmetic.{wrapped, floor_div, floor_rem}
use Rattle.domains.proofs.Floors.{floor_splits}

rest_fits : (r : ℤ) → pos 0 ≤ℤ r → r <ℤ pos 2147483648 → FitsSigned w32 r
rest_fits (pos n) low high = let few : n < 2147483648 = omega (arith, ints) in search (rules, few)
rest_fits (negsuc n) low high = absurd low.le

-- as it is computed by two shifts
last_bits : (a : ℤ) (bits : ℕ) → bits < 32
    → wrapped (a -ℤ wrapped (floor_div a (pos (2 ^ bits)) *ℤ pos (2 ^ bits))) ≡ floor_rem a (pos (2 ^ bits))
last_bits a bits few =
    let some : 1 ≤ 2 ^ bits = one-le-pow bits 2 (omega arith) in
    let short : bits ≤ 31 = omega arith in
    let most : 2 ^ bits ≤ 2 ^ 31 = pow-le-pow_right {n = 2} (lit≤ tt) short in
    let f = floor_splits a (pos (2 ^ bits)) (omega (arith, ints, some)) in
    let rest : a -ℤ floor_div a (pos (2 ^ bits)) *ℤ pos (2 ^ bits) ≡ floor_rem a (pos (2 ^ bits)) = omega (arith, ints, f.split) in
    int_wrap-sub_right w32 a (floor_div a (pos (2 ^ bits)) *ℤ pos (2 ^ bits)) ∙ ap wrapped rest
    ∙ int_wrap_fits w32 _ (rest_fits _ f.least (omega (arith, ints, f.below, most)))

-- what the code of that computes
pub last_bits_are : (a q s r : ℤ) (bits : ℕ) → bits < 32 → FitsSigned w32 a → FitsSigned w32 q → FitsSigned w32 s → FitsSigned w32 r
    → q ≡ floor_div (to_z w32 (of_z w32 a)) (pos (2 ^ bits)) → s ≡ wrapped (to_z w32 (of_z w32 q) *ℤ pos (2 ^ bits))
    → r ≡ wrapped (to_z w32 (of_z w32 a) -ℤ to_z w32 (of_z w32 s)) → to_z w32 (of_z w32 r) ≡ floor_rem a (pos (2 ^ bits))
last_bits_are a q s r bits few fa fq fs fr quotient shifted rest =
    let left : q ≡ floor_div a (pos (2 ^ bits)) = quotient ∙ ap (λ (z : ℤ). floor_div z (pos (2 ^ bits))) (to_z-of_z w32 a fa) in
    let back : s ≡ wrapped (floor_div a (pos (2 ^ bits)) *ℤ pos (2 ^ bits)) =
    shifted ∙ ap (λ (z : ℤ). wrapped (z *ℤ pos (2 ^ bits))) (to_z-of_z w32 q fq ∙ left) in
    to_z-of_z w32 r fr ∙ rest ∙ (λ i. wrapped (to_z-of_z w32 a fa i -ℤ (to_z-of_z w32 s fs ∙ back) i)) ∙ last_bits a bits few
