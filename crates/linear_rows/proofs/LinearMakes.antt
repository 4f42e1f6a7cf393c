-- What is made of sums: quotients that numbers bound.
use Rattle.std.proofs.Common.{arith, ℕ, ℤ, ◌≡◌, ◌≤◌, pos, negsuc, ◌^◌, ◌+ℤ◌, ◌-ℤ◌, ◌*ℤ◌, w16, w32, FitsSigned, true, true≢false, ap, sym, ◌∙◌}
use Rattle.std.proofs.lemmas.Bool.Decides.{nat_tests}
use Rattle.std.proofs.lemmas.Nat.{pow_pos}
use Rattle.std.specs.Int.{int_min, int_max}
use Rattle.std.proofs.lemmas.Int.{ints, clamps, SFits-int_wrap, int_wrap_fits}
use Rattle.domains.specs.Arithmetic.{wrapped, clamped, floor_div}
use Rattle.operators.specs.Values.{literal_value}
use Rattle.operators.specs.declared.operator.BinaryOp.TheVariants.{Add, Sub, Mul, Min, Max}
use Rattle.operators.specs.declared.operator.LiteralOp.{LiteralOp}
use Rattle.operators.specs.declared.operator.LiteralOp.TheVariants.{Div, Rem, Shl, Shr}
use Rattle.operators.proofs.Fitting.{quotient_fits}
use Rattle.job.specs.Formula.{Formula, number, coordinate, read, unary, binary, ternary, literal, lookup, select, stencil}
use Rattle.job.specs.Values.{Valuation, formula_value}
use Rattle.linear_rows.specs.inside.Divisions.{is_division}
use Rattle.linear_rows.specs.declared.linear_make.LinearShift.{LinearShift}
use Rattle.linear_rows.specs.inside.LinearSums.{shifted, is_joined}

abbrev cut : ℤ → ℤ
cut z = clamped z (negsuc 32767) (pos 32767)

-- bounds may be cut to 16 bits, as the number is, where what they make of it fits
cut_clamped : (v low high : ℤ) → FitsSigned w16 (clamped v low high)
    → int_min (int_max (cut v) (cut low)) (cut high) ≡ clamped v low high
cut_clamped v low high fits = omega (arith, ints, clamps, fits)

pub cut_shifted : (m : LinearShift) (x v a b c : ℤ) → v ≡ floor_div x (pos (2 ^ m.bits))
    → a ≡ cut v → b ≡ cut m.low → c ≡ cut m.high
    → FitsSigned w16 (shifted m x) → int_min (int_max a b) c ≡ shifted m x
unfolding shifted
cut_shifted m x v a b c is e f g fits =
    (λ i. int_min (int_max (e i) (f i)) (g i))
    ∙ ap (λ (q : ℤ). int_min (int_max (cut q) (cut m.low)) (cut m.high)) is
    ∙ cut_clamped (floor_div x (pos (2 ^ m.bits))) m.low m.high fits

-- at least a number
pub clamped_from : (v low high n : ℤ) → clamped v (int_max low n) (int_max high n) ≡ int_max (clamped v low high) n
clamped_from v low high n = omega (arith, ints, clamps)

pub clamped_to : (v low high n : ℤ) → clamped v low (int_min high n) ≡ int_min (clamped v low high) n
clamped_to v low high n = omega (arith, ints, clamps)

pub swapped_max : (a b : ℤ) → int_max a b ≡ int_max b a
swapped_max a b = omega (arith, ints, clamps)

-- the bounds of 32 bits change nothing
pub clamped_freely : (v : ℤ) → FitsSigned w32 v → clamped v (negsuc 2147483647) (pos 2147483647) ≡ v
clamped_freely v fits = omega (arith, ints, clamps, fits)

-- a quotient of a joined sum fits in 32 bits
wrapped_fits : (z : ℤ) → FitsSigned w32 (wrapped z)
wrapped_fits z = SFits-int_wrap w32 z

joined_fits : (env : Valuation) (r c : ℤ) (f : Formula) → is_joined f ≡ true → FitsSigned w32 (formula_value env f r c)
joined_fits env r c (binary Add a b) h = wrapped_fits (formula_value env a r c +ℤ formula_value env b r c)
joined_fits env r c (binary Sub a b) h = wrapped_fits (formula_value env a r c -ℤ formula_value env b r c)
joined_fits env r c (binary Mul a b) h = wrapped_fits (formula_value env a r c *ℤ formula_value env b r c)
joined_fits env r c (binary Min a b) h = absurd (true≢false (sym h))
joined_fits env r c (binary Max a b) h = absurd (true≢false (sym h))
joined_fits env r c (number n) h = absurd (true≢false (sym h))
joined_fits env r c (coordinate x) h = absurd (true≢false (sym h))
joined_fits env r c (read g i j) h = absurd (true≢false (sym h))
joined_fits env r c (unary op a) h = absurd (true≢false (sym h))
joined_fits env r c (ternary op a b d) h = absurd (true≢false (sym h))
joined_fits env r c (literal op a n) h = absurd (true≢false (sym h))
joined_fits env r c (lookup t a) h = absurd (true≢false (sym h))
joined_fits env r c (select a relation b first second) h = absurd (true≢false (sym h))
joined_fits env r c (stencil g divisor kernel) h = absurd (true≢false (sym h))

-- such a sum is wrapped
pub joined_wrapped : (env : Valuation) (r c : ℤ) (f : Formula) → is_joined f ≡ true → wrapped (formula_value env f r c) ≡ formula_value env f r c
joined_wrapped env r c f h = int_wrap_fits w32 (formula_value env f r c) (joined_fits env r c f h)

quotient_within : (op : LiteralOp) (n : ℕ) (s : ℤ) → is_division op n ≡ true → FitsSigned w32 s → FitsSigned w32 (literal_value op s n)
quotient_within Div n s h fits = let some : 1 ≤ n = grind (arith, nat_tests) in quotient_fits s n some fits
quotient_within Shr n s h fits = quotient_fits s (2 ^ n) (pow_pos n) fits
quotient_within Rem n s h fits = absurd (true≢false (sym h))
quotient_within Shl n s h fits = absurd (true≢false (sym h))

pub quotient_bounded : (env : Valuation) (r c : ℤ) (f : Formula) (op : LiteralOp) (n : ℕ) → is_division op n ≡ true → is_joined f ≡ true
    → clamped (literal_value op (formula_value env f r c) n) (negsuc 2147483647) (pos 2147483647) ≡ literal_value op (formula_value env f r c) n
quotient_bounded env r c f op n great joined =
    clamped_freely (literal_value op (formula_value env f r c) n)
    (quotient_within op n (formula_value env f r c) great (joined_fits env r c f joined))
