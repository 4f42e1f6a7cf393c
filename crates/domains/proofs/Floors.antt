-- Division that rounds down.
use Rattle.std.proofs.Common.{ℕ, ℤ, pos, negsuc, suc, ◌≡◌, ◌+◌, ◌/◌, ◌%◌, ◌<◌, ◌≤◌, ◌+ℤ◌, ◌*ℤ◌, ◌≤ℤ◌, ◌<ℤ◌, sym, ap, ◌∙◌, arith}
use Rattle.std.proofs.Math.Nat.{mod-lt, div-mul-le_self, div-le_self, le_trans, mul-le-mul_right}
use Rattle.std.proofs.lemmas.Nat.{div-add-mod', le-div}
use Rattle.std.proofs.lemmas.Int.{ints, by_lt_z}
use borrow.Author.Differences.{up, down}
use Rattle.domains.specs.Arithmetic.{IsFloor, floor_div, floor_rem}

pub div-mono : (a b d : ℕ) → 0 < d → a ≤ b → a / d ≤ b / d
div-mono a b d p h = le-div (a / d) b d p (le_trans (div-mul-le_self a d) h)

-- the quotient and what it leaves make up the number
pub floor_splits : (a d : ℤ) → pos 0 <ℤ d → IsFloor a d (floor_div a d) (floor_rem a d)
floor_splits (pos a) (pos d) p =
    let above : 0 < d = omega (arith, ints) in
    record { split = omega (arith, ints, div-add-mod' a d); least = omega (arith, ints); below = omega (arith, ints, mod-lt a above) }
floor_splits (negsuc a) (pos d) p =
    let above : 0 < d = omega (arith, ints) in
    let small : a % d < d = mod-lt a above in
    record { split = omega (arith, ints, div-add-mod' a d); least = omega (arith, ints); below = omega (arith, ints) }
floor_splits (pos a) (negsuc d) p = absurd p.lt
floor_splits (negsuc a) (negsuc d) p = absurd p.lt

-- a greater number has no lesser quotient
pub floor_div_rises : (a b d : ℤ) → pos 0 <ℤ d → a ≤ℤ b → floor_div a d ≤ℤ floor_div b d
floor_div_rises (pos a) (pos b) (pos d) p h =
    let above : 0 < d = omega (arith, ints) in let under : a ≤ b = omega (arith, ints) in omega (arith, ints, div-mono a b d above under)
floor_div_rises (pos a) (negsuc b) (pos d) p h = absurd h.le
floor_div_rises (negsuc a) (pos b) (pos d) p h = omega (arith, ints)
floor_div_rises (negsuc a) (negsuc b) (pos d) p h =
    let above : 0 < d = omega (arith, ints) in let under : b ≤ a = omega (arith, ints) in omega (arith, ints, div-mono b a d above under)
floor_div_rises a b (negsuc d) p h = absurd p.lt

-- a quotient lies no further from 0 than the number
pub floor_div_within : (a d : ℤ) (n : ℕ) → pos 0 <ℤ d → negsuc n ≤ℤ a → a ≤ℤ pos (suc n)
    → (negsuc n ≤ℤ floor_div a d) × (floor_div a d ≤ℤ pos (suc n))
floor_div_within (pos a) (pos d) n p low high = (omega (arith, ints), omega (arith, ints, div-le_self a d))
floor_div_within (negsuc a) (pos d) n p low high = (omega (arith, ints, div-le_self a d), omega (arith, ints))
floor_div_within (pos a) (negsuc d) n p low high = absurd p.lt
floor_div_within (negsuc a) (negsuc d) n p low high = absurd p.lt

below : (q q' r r' : ℤ) (d : ℕ) → q *ℤ pos d +ℤ r ≡ q' *ℤ pos d +ℤ r' → pos 0 ≤ℤ r → r' <ℤ pos d → q ≤ℤ q'
below q q' r r' d e low high = by_lt_z q' q (λ over. absurd (clash over)) (λ under. under)
  where
    clash : q' <ℤ q → ⊥
    clash over =
        let more : up q' + down q + 1 ≤ up q + down q' = omega (arith, ints) in
        let times = mul-le-mul_right d more in
        omega (arith, ints, times)

-- no other pair makes up the number with a remainder from 0 up to below the divisor
pub floor_only : (a d q r : ℤ) → pos 0 <ℤ d → IsFloor a d q r → (q ≡ floor_div a d) × (r ≡ floor_rem a d)
floor_only a (pos d) q r p h =
    let f = floor_splits a (pos d) p in
    let same = sym h.split ∙ f.split in
    let under = below q (floor_div a (pos d)) r (floor_rem a (pos d)) d same h.least f.below in
    let over = below (floor_div a (pos d)) q (floor_rem a (pos d)) r d (sym same) f.least h.below in
    let quotient : q ≡ floor_div a (pos d) = omega (arith, ints) in
    let product = ap (λ z. z *ℤ pos d) quotient in
    (quotient, omega (arith, ints, product, same))
floor_only a (negsuc d) q r p h = absurd p.lt
