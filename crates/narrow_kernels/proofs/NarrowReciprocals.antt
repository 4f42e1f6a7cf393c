use Rattle.std.proofs.Common.{arith, ℕ, ◌≡◌, ◌+◌, ◌-◌, ◌*◌, ◌/◌, ◌%◌, ◌^◌, add-one, ◌<◌, ◌≤◌, suc, ap, sym, ◌∙◌, le_trans, le_of_eq}
use Rattle.narrow_kernels.specs.NarrowReciprocals.{IsNarrowReciprocal, IsNarrowShift}
use Rattle.std.proofs.Math.Nat.{mul_assoc, mul_comm, mul_right_comm, mul-add, suc-mul, mul-le-mul_right, mul-le-mul_left}
use Rattle.std.proofs.Math.Nat.{mul-lt-mul_of_pos_right, le-div_iff_mul-le, div-lt_iff_lt-mul, le_antisymm}
use Rattle.std.proofs.Math.Nat.{lt_of_mul-lt-mul_right, div-add-mod', div-mul-le_self, mod-lt, pow-le-pow_right, mod-eq_of_lt, div-div-eq-div-mul}

below_suc : (a b : ℕ) → a < suc b → a ≤ b
below_suc a b h = omega arith

-- the quotient is between two multiples
pub quotient_is : (x p q : ℕ) → 0 < p → q * p ≤ x → x < suc q * p → x / p ≡ q
quotient_is x p q pos low high =
    le_antisymm (below_suc (x / p) q ((div-lt_iff_lt-mul {k = p} {x = x} {y = suc q} pos).1 high))
    ((le-div_iff_mul-le {k = p} {x = q} {y = x} pos).1 low)

-- n divided by d is n times m, cut by p, where m * d lies above p by e and n * e stays below p
pub by_product : (n d m e p : ℕ) → 0 < d → 0 < p → m * d ≡ p + e → n * e < p → (n * m) / p ≡ n / d
by_product n d m e p dpos ppos is small =
    let up : p ≤ p + e = omega arith in
    let turn : n / d * (m * d) ≡ n / d * d * m = ap (λ (x : ℕ). n / d * x) (mul_comm m d) ∙ sym (mul_assoc (n / d) d m) in
    let low : n / d * p ≤ n * m =
    le_trans (mul-le-mul_left (n / d) up)
    (le_trans (le_of_eq (ap (λ (x : ℕ). n / d * x) (sym is) ∙ turn)) (mul-le-mul_right m (div-mul-le_self n d))) in
    let parts : n / d * d + n % d ≡ n = div-add-mod' n d in
    let less : n % d < d = mod-lt n dpos in
    let next : suc (n / d) * d ≡ n / d * d + d = suc-mul (n / d) d in
    let over : suc n ≤ suc (n / d) * d = omega arith in
    let wide : suc n * p ≤ suc (n / d) * d * p = mul-le-mul_right p over in
    let whole : n * m * d ≡ n * p + n * e = mul_assoc n m d ∙ ap (λ (x : ℕ). n * x) is ∙ mul-add n p e in
    let one_more : suc n * p ≡ n * p + p = suc-mul n p in
    let swap : suc (n / d) * d * p ≡ suc (n / d) * p * d = mul_right_comm (suc (n / d)) d p in
    let high : n * m * d < suc (n / d) * p * d = omega arith in
    quotient_is (n * m) p (n / d) ppos low (lt_of_mul-lt-mul_right d high)

-- ---- the factor for a divisor above k and at most 2 * k, with 2 ^ 16 * k as the power

module _ (d k f : ℕ) (above : k < d) (below : d ≤ 2 * k) (few : k < 32768) (is : f ≡ 65536 * k / d + 1) where
  pub factor_divides : (n : ℕ) → n < 32768 → n * f / (65536 * k) ≡ n / d
  factor_divides n h =
      let positive : 0 < d = omega arith in
      let split : 65536 * k / d * d + 65536 * k % d ≡ 65536 * k = div-add-mod' (65536 * k) d in
      let less : 65536 * k % d < d = mod-lt (65536 * k) positive in
      let more : f * d ≡ 65536 * k / d * d + d = rw (is, add-one) (suc-mul (65536 * k / d) d) in
      let over : f * d ≡ 65536 * k + (d - 65536 * k % d) = omega arith in
      let small : n * (d - 65536 * k % d) ≤ n * (2 * k) = mul-le-mul_left n (omega arith) in
      let whole : n * (2 * k) < 32768 * (2 * k) = mul-lt-mul_of_pos_right h (omega arith) in
      by_product n d f (d - 65536 * k % d) (65536 * k) positive (omega arith) over (omega arith)

-- a power of two below 2 ^ 15
pub lt_of_pow : (b : ℕ) → 2 ^ b < 65536 → b < 16
lt_of_pow b h =
    let more : 16 ≤ b → 65536 ≤ 2 ^ b = λ l. pow-le-pow_right {n = 2} (omega arith) {i = 16} {j = b} l in
    grind (arith, more)

-- as it is computed, from the bits of the number below the divisor
module _ (d b : ℕ) (some : 2 ≤ d) (most : d ≤ 32768) (low : 2 ^ b ≤ d - 1) (high : d - 1 < 2 * 2 ^ b) where
  pub shift_fits : b < 16
  shift_fits = lt_of_pow b (omega arith)

  short : 65536 * 2 ^ b < 4294967296
  short = omega arith

  factor_is : 65536 * 2 ^ b % 4294967296 / d + 1 ≡ 65536 * 2 ^ b / d + 1
  factor_is = ap (λ (n : ℕ). n / d + 1) (mod-eq_of_lt short)

  pub computed_divides : IsNarrowReciprocal d (65536 * 2 ^ b % 4294967296 / d + 1) b
  computed_divides n h =
      div-div-eq-div-mul (n * (65536 * 2 ^ b % 4294967296 / d + 1)) 65536 (2 ^ b)
      ∙ factor_divides d (2 ^ b) _ (omega arith) (omega arith) (omega arith) factor_is n h

-- ---- a shift

-- a quotient by a power of two
pub power_shifts : (d b : ℕ) → d ≡ 2 ^ b → IsNarrowShift d b
power_shifts d b e n h = ap (λ (m : ℕ). n / m) (sym e)
