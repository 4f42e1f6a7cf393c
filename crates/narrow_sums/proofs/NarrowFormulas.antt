-- Formulas whose values fit in 16 bits.
use Rattle.std.proofs.Common.{arith, ℕ, ℤ, ◌≡◌, ◌<◌, ◌≤◌, ◌/◌, ◌*◌, ◌⊎◌, inl, inr, pos, negsuc, ◌+ℤ◌, unsigned_abs, ap, sym, subst, ◌∙◌}
use Rattle.std.proofs.Common.{Bool, true, false}
use Rattle.std.specs.Prelude.{if◌then◌else◌}
use Rattle.std.proofs.Math.Nat.{div-le_self, mul-le-mul_left, div-lt_iff_lt-mul}
use Rattle.std.proofs.lemmas.Int.{ints}
use Rattle.domains.specs.Arithmetic.{floor_div}
use Rattle.job.specs.Formula.{Formula, number, coordinate, read, unary, binary, ternary, literal, lookup, select, stencil}
use Rattle.job.specs.Values.{Valuation, formula_value}
use Rattle.value_ranges.specs.Narrow.{Fits16, IsNarrow, steps_before_division, sum_before_division}
use Rattle.value_ranges.proofs.NarrowSums.{few_steps}
use Rattle.narrow_sums.specs.NarrowFormulas.{FitsWithin, NarrowWithin}

-- ---- quotients

pub quotient_by_one : (x : ℤ) → floor_div x (pos 1) ≡ x
quotient_by_one (pos n) = ap pos (omega arith)
quotient_by_one (negsuc n) = ap negsuc (omega arith)

pub same_as_quotient : (x z : ℤ) (d : ℕ) → d ≡ 1 → x ≡ z → x ≡ floor_div z (pos d)
same_as_quotient x z d one e = rw one (e ∙ sym (quotient_by_one z))

-- a quotient lies no further from 0
pub quotient_fits : (x : ℤ) (d : ℕ) → Fits16 x → Fits16 (floor_div x (pos d))
quotient_fits (pos n) d h = let less : n / d ≤ n = div-le_self n d in omega (arith, ints, less)
quotient_fits (negsuc n) d h = let less : n / d ≤ n = div-le_self n d in omega (arith, ints, less)

small_quotient : (n d : ℕ) → n ≤ 65535 → 2 ≤ d → n / d < 32768
small_quotient n d few two =
    let twice : 32768 * 2 ≤ 32768 * d = mul-le-mul_left 32768 two in
    (div-lt_iff_lt-mul (omega (arith, two))).1 (omega (arith, twice, few))

-- the quotient of twice as many numbers as 16 bits have fits in them
great_quotient_fits : (s : ℤ) (d : ℕ) → unsigned_abs s ≤ 65535 → 2 ≤ d → Fits16 (floor_div s (pos d))
great_quotient_fits (pos n) d few two = let small = small_quotient n d (omega (arith, ints, few)) two in omega (arith, ints, small)
great_quotient_fits (negsuc n) d few two = let small = small_quotient n d (omega (arith, ints, few)) two in omega (arith, ints, small)

-- the quotient of a sum that fits without some divisors fits too
pub stepped_quotient_fits : (s : ℤ) (d : ℕ) → Fits16 (sum_before_division d s) → Fits16 (floor_div s (pos d))
stepped_quotient_fits s d h = by (few_steps d)
  where
    by : (steps_before_division d ≡ 0) ⊎ ((129 ≤ d) × (steps_before_division d * d ≤ 32768)) → Fits16 (floor_div s (pos d))
    by (inl none) =
        let nothing : steps_before_division d * d ≡ 0 = rw none (omega arith) in
        let same : sum_before_division d s ≡ s = omega (arith, ints, nothing) in
        quotient_fits s d (subst (λ (z : ℤ). Fits16 z) same h)
    by (inr (great, few)) =
        great_quotient_fits s d (omega (arith, ints, h, few)) (omega (arith, great))

-- ---- at a point and along a row

one_of_both : (b : Bool) (x y : ℤ) → Fits16 x → Fits16 y → Fits16 (if b then x else y)
one_of_both true x y f g = f
one_of_both false x y f g = g

-- the value of a narrow formula fits
pub narrow_value : (env : Valuation) (r c : ℤ) (f : Formula) → IsNarrow env f r c → Fits16 (formula_value env f r c)
narrow_value env r c (number m) h = h
narrow_value env r c (coordinate x) h = absurd h
narrow_value env r c (read g i j) h = h
narrow_value env r c (unary op a) h = h.1
narrow_value env r c (binary op a b) h = h.2
narrow_value env r c (ternary op a b d) h = h.3
narrow_value env r c (literal op a m) h = h.1
narrow_value env r c (lookup t a) h = absurd h
narrow_value env r c (select a relation b x y) h =
    one_of_both _ _ _ (narrow_value env r c x h.2) (narrow_value env r c y h.3)
narrow_value env r c (stencil g divisor kernel) h = stepped_quotient_fits _ divisor h

-- gathered along the row
pub narrow_along : (env : Valuation) (r c : ℤ) (n : ℕ) (f : Formula) → ((k : ℕ) → k < n → IsNarrow env f r (c +ℤ pos k)) → NarrowWithin env f r c n
narrow_along env r c n (number m) h = h
narrow_along env r c n (coordinate x) h = h
narrow_along env r c n (read g i j) h = h
narrow_along env r c n (unary op a) h = (narrow_along env r c n a (λ k l. (h k l).0), λ k l. (h k l).1)
narrow_along env r c n (binary op a b) h =
    (narrow_along env r c n a (λ k l. (h k l).0), narrow_along env r c n b (λ k l. (h k l).1), λ k l. (h k l).2)
narrow_along env r c n (ternary op a b d) h = (
  narrow_along env r c n a (λ k l. (h k l).0),
  narrow_along env r c n b (λ k l. (h k l).1),
  narrow_along env r c n d (λ k l. (h k l).2),
  λ k l. (h k l).3,
)
narrow_along env r c n (literal op a m) h = (narrow_along env r c n a (λ k l. (h k l).0), λ k l. (h k l).1)
narrow_along env r c n (lookup t a) h = h
narrow_along env r c n (select a relation b x y) h = (
  narrow_along env r c n a (λ k l. (h k l).0),
  narrow_along env r c n b (λ k l. (h k l).1),
  narrow_along env r c n x (λ k l. (h k l).2),
  narrow_along env r c n y (λ k l. (h k l).3),
)
narrow_along env r c n (stencil g divisor kernel) h = h

-- and back, at a place of the row
pub narrow_at : (env : Valuation) (r c : ℤ) (n : ℕ) (f : Formula) → NarrowWithin env f r c n → (k : ℕ) → k < n → IsNarrow env f r (c +ℤ pos k)
narrow_at env r c n (number m) h k l = h k l
narrow_at env r c n (coordinate x) h k l = h k l
narrow_at env r c n (read g i j) h k l = h k l
narrow_at env r c n (unary op a) h k l = (narrow_at env r c n a h.0 k l, h.1 k l)
narrow_at env r c n (binary op a b) h k l = (narrow_at env r c n a h.0 k l, narrow_at env r c n b h.1 k l, h.2 k l)
narrow_at env r c n (ternary op a b d) h k l =
    (narrow_at env r c n a h.0 k l, narrow_at env r c n b h.1 k l, narrow_at env r c n d h.2 k l, h.3 k l)
narrow_at env r c n (literal op a m) h k l = (narrow_at env r c n a h.0 k l, h.1 k l)
narrow_at env r c n (lookup t a) h k l = h k l
narrow_at env r c n (select a relation b x y) h k l =
    (narrow_at env r c n a h.0 k l, narrow_at env r c n b h.1 k l, narrow_at env r c n x h.2 k l, narrow_at env r c n y h.3 k l)
narrow_at env r c n (stencil g divisor kernel) h k l = h k l

pub narrow_fits : (env : Valuation) (r c : ℤ) (n : ℕ) (f : Formula) → NarrowWithin env f r c n → FitsWithin env f r c n
narrow_fits env r c n f h = λ k l. narrow_value env r (c +ℤ pos k) f (narrow_at env r c n f h k l)
