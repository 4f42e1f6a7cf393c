-- Sums that are divided in 16 bits.
use Rattle.std.proofs.Common.{arith, ℕ, ◌≡◌, ◌≤◌, ◌*◌, ◌/◌, ◌⊎◌, inl, inr, Bool, true, false, refl}
use Rattle.std.specs.Prelude.{nat_lt, ◌&&◌, if◌then◌else◌}
use Rattle.std.proofs.Math.Nat.{div-mul-le_self}
use Rattle.std.proofs.lemmas.Bool.Decides.{nat_tests}
use Rattle.value_ranges.specs.Narrow.{steps_before_division}

-- no divisor is taken away, or the divisor is great and not more than 2 ^ 15 is
pub few_steps : (d : ℕ) → (steps_before_division d ≡ 0) ⊎ ((129 ≤ d) × (steps_before_division d * d ≤ 32768))
few_steps d = by (nat_lt 128 d && nat_lt d 258) refl
  where
    by : (b : Bool) → nat_lt 128 d && nat_lt d 258 ≡ b
        → ((if b then 32768 / d else 0) ≡ 0) ⊎ ((129 ≤ d) × ((if b then 32768 / d else 0) * d ≤ 32768))
    by false e = inl refl
    by true e = inr (grind (arith, nat_tests, e), div-mul-le_self 32768 d)
