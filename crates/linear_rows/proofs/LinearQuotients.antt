-- Rows of quotients: sums that are divided and clamped.
use Rattle.std.proofs.Common.{arith, ℕ, zero, suc, ℤ, ◌≡◌, ◌<◌, ◌≤◌, ◌+◌, ◌/◌, ◌^◌, pos, negsuc, ◌+ℤ◌, ◌*ℤ◌, List, [], ◌∷◌, ◌++◌, length, take, map, ap, sym, subst, ◌∙◌}
use Rattle.std.proofs.lemmas.Int.{ints}
use Rattle.std.proofs.lemmas.List.{take_all}
use Rattle.std.specs.Prelude.{All}
use Rattle.domains.specs.Arithmetic.{wrapped, clamped, floor_div}
use Rattle.operators.specs.Values.{literal_value}
use Rattle.operators.specs.declared.operator.LiteralOp.{LiteralOp}
use Rattle.operators.specs.declared.operator.LiteralOp.TheVariants.{Shr}
use Rattle.job.specs.Formula.{Formula}
use Rattle.job.specs.Reads.{Read, EachRead, EachTaken, reads_in}
use Rattle.job.specs.Values.{Valuation, formula_value}
use Rattle.job.specs.Views.{formula_view}
use Rattle.job.proofs.Steps.{All-from_map}
use Rattle.row_loops.specs.Rows.{EachPlace, at}
use Rattle.linear_rows.specs.declared.linear_make.LinearMake.{LinearMake}
use Rattle.linear_rows.specs.declared.linear_make.LinearShift.{LinearShift}
use Rattle.linear_rows.specs.declared.linear_taps.LinearTap.{LinearTap}
use Rattle.linear_rows.specs.declared.linear_quotient.LinearQuotient.{LinearQuotient}
use Rattle.linear_rows.specs.inside.LinearSums.{made, shifted, taps_value, sum_value, tap_read, AreTapsRead}

by_one : (z : ℤ) → floor_div z (pos 1) ≡ z
by_one (pos a) = let same : a / 1 ≡ a = omega arith in ap pos same
by_one (negsuc a) = let same : a / 1 ≡ a = omega arith in ap negsuc same

-- a sum that is shifted alone
pub shifted_alone : (m : LinearMake) (q : LinearShift) (v : ℤ) → m.op ≡ Shr → q.bits ≡ m.literal → q.low ≡ m.low → q.high ≡ m.high
    → shifted q v ≡ made m v
unfolding shifted
shifted_alone m q v op bits low high =
    (λ i. clamped (floor_div v (pos (2 ^ bits i))) (low i) (high i))
    ∙ ap (λ (o : LiteralOp). clamped (literal_value o v m.literal) m.low m.high) (sym op)

-- and a quotient that is shifted by no bits
pub shifted_quotient : (m : LinearMake) (q : LinearShift) (x v : ℤ) → x ≡ literal_value m.op v m.literal → q.bits ≡ 0 → q.low ≡ m.low → q.high ≡ m.high
    → shifted q x ≡ made m v
unfolding shifted
shifted_quotient m q x v is bits low high =
    (λ i. clamped (floor_div (is i) (pos (2 ^ bits i))) (low i) (high i))
    ∙ ap (λ (z : ℤ). clamped z m.low m.high) (by_one (literal_value m.op v m.literal))

-- ---- at a point

module _ (quotient : LinearQuotient) (env : Valuation) (r c : ℤ) where
  abbrev own : ℤ
  own = formula_value env (formula_view quotient.formula.now) r c

  pub made_sum : (x : ℤ) → x ≡ wrapped (sum_value env quotient.sum r c) → made quotient.make x ≡ own
  made_sum x e = ap (made quotient.make) e ∙ quotient.values env r c

  -- all taps are the first n of them
  pub few_taps : (q : LinearShift) (n : ℕ) (ts : List LinearTap) (s x : ℤ) → quotient.make.op ≡ Shr → q.bits ≡ quotient.make.literal
      → q.low ≡ quotient.make.low → q.high ≡ quotient.make.high → s ≡ quotient.sum.number → length ts ≤ n → ts ≡ quotient.sum.taps.items
      → x ≡ s +ℤ taps_value env (take n ts) r c → shifted q (wrapped x) ≡ own
  few_taps q n ts s x op bits low high number few is e =
      shifted_alone quotient.make q (wrapped x) op bits low high
      ∙ made_sum (wrapped x) (ap wrapped (e
      ∙ ap (λ (xs : List LinearTap). s +ℤ taps_value env xs r c) (take_all n ts few ∙ is)
      ∙ ap (λ (z : ℤ). z +ℤ taps_value env quotient.sum.taps.items r c) number))

-- a sum that begins with nothing
pub from_nothing : (z : ℤ) → pos 0 +ℤ pos 0 +ℤ pos 1 *ℤ z ≡ z
from_nothing z = omega (arith, ints)

-- ---- parts of a row

-- a row of two parts, where each has its values
pub both_parts : (f : ℕ → ℤ) (xs ys : List ℤ) → EachPlace (length xs) (λ k. at xs k ≡ f k) → EachPlace (length ys) (λ k. at ys k ≡ f (length xs + k))
    → (k : ℕ) → k < length xs + length ys → at (xs ++ ys) k ≡ f k
both_parts f [] ys h g k l =
    let same : 0 + k ≡ k = omega arith in
    g k (omega (arith, l)) ∙ ap f same
both_parts f (x ∷ xs) ys h g zero l = h zero (omega arith)
both_parts f (x ∷ xs) ys h g (suc k) l =
    let same : (n : ℕ) → suc (length xs) + n ≡ suc (length xs + n) = λ n. omega arith in
    both_parts (λ n. f (suc n)) xs ys (λ n p. h (suc n) (omega (arith, p))) (λ n p. g n p ∙ ap f (same n)) k (omega (arith, l))

-- what holds at a place of the whole row holds at that of its last part
pub in_last_part : (P : ℤ → ℤ → Type 0) (r c s d : ℤ) (m k : ℕ) → s ≡ r → d ≡ c +ℤ pos m → P r (c +ℤ pos (m + k)) → P s (d +ℤ pos k)
in_last_part P r c s d m k e f h =
    let place : d +ℤ pos k ≡ c +ℤ pos (m + k) = omega (arith, ints, f) in
    subst (λ (z : ℤ). P z (d +ℤ pos k)) (sym e) (subst (λ (z : ℤ). P r z) (sym place) h)

-- what a formula reads, its taps read
pub taps_read : (P : ℕ → ℤ → ℤ → Type 0) (r c : ℤ) (ts : List LinearTap) (f : Formula) → map tap_read ts ≡ reads_in f
    → EachRead P f r c → AreTapsRead P r c ts
taps_read P r c ts f is h =
    All-from_map (λ (x : Read). EachTaken P x r c) tap_read ts
    (subst (λ (xs : List Read). All (λ (x : Read). EachTaken P x r c) xs) (sym is) h)
