-- Laws of distances and of comparisons.
use Rattle.std.proofs.Common.{arith, ℕ, suc, ℤ, ◌≡◌, ◌<◌, ◌≤◌, ◌⊎◌, inl, inr, pos, negsuc, neg_ℤ, ◌-ℤ◌, ◌*ℤ◌, w32, FitsSigned, List, ◌++◌, Bool, ap, sym, refl, subst, ◌∙◌}
use Rattle.std.specs.Prelude.{All, unsigned_abs, if◌then◌else◌}
use Rattle.std.specs.Int.{int_max, int_wrap}
use Rattle.std.proofs.lemmas.Bool.{cases_lt}
use Rattle.std.proofs.lemmas.Int.{ints, clamps, SFits-int_wrap, int_wrap_fits, int_wrap-mul_right}
use Rattle.std.proofs.lemmas.List.Elements.{All-append}
use Rattle.domains.specs.Arithmetic.{wrapped}
use Rattle.operators.specs.declared.operator.UnaryOp.TheVariants.{Abs}
use Rattle.operators.specs.declared.operator.BinaryOp.TheVariants.{Sub, Max}
use Rattle.operators.specs.declared.operator.Relation.{Relation}
use Rattle.operators.specs.Values.{is_related}
use Rattle.job.specs.Formula.{Formula, unary, binary, select}
use Rattle.job.specs.Reads.{Read, reads_in}
use Rattle.job.specs.Values.{formula_value}
use Rattle.job.proofs.Agreeing.{All-left, All-right}
use Rattle.normal_formulas.specs.Rewrites.{Rewrites}
use Rattle.normal_formulas.proofs.Standing.{Stands, rewrites}
use Rattle.normal_formulas.proofs.Laws.{by_value, exchanged_lists}

-- ---- distances

-- the opposite of a number of 32 bits
opposite : (x y : ℤ) → wrapped (y -ℤ x) ≡ wrapped (neg_ℤ (wrapped (x -ℤ y)))
opposite x y = ap wrapped (turned x y) ∙ sym (int_wrap-mul_right w32 (negsuc 0) (x -ℤ y)) ∙ ap wrapped (once (wrapped (x -ℤ y)))
  where
    turned : (a b : ℤ) → b -ℤ a ≡ negsuc 0 *ℤ (a -ℤ b)
    turned a b = omega (arith, ints)

    once : (z : ℤ) → negsuc 0 *ℤ z ≡ neg_ℤ z
    once z = omega (arith, ints)

least_opposite : wrapped (pos 2147483648) ≡ int_max (negsuc 2147483647) (wrapped (pos 2147483648))
unfolding int_wrap
least_opposite = refl

-- the greater of a number below 0 and its opposite; the least number of 32 bits is its own
opposite_above : (n : ℕ) → (n < 2147483647) ⊎ (2147483647 ≤ n) → FitsSigned w32 (negsuc n)
    → wrapped (pos (suc n)) ≡ int_max (negsuc n) (wrapped (pos (suc n)))
opposite_above n (inl few) fits =
    e ∙ above ∙ ap (int_max (negsuc n)) (sym e)
  where
    e : wrapped (pos (suc n)) ≡ pos (suc n)
    e = int_wrap_fits w32 (pos (suc n)) (omega (arith, ints, few))

    above : pos (suc n) ≡ int_max (negsuc n) (pos (suc n))
    above = omega (arith, ints, clamps)
opposite_above n (inr many) fits =
    subst (λ (k : ℕ). wrapped (pos (suc k)) ≡ int_max (negsuc k) (wrapped (pos (suc k)))) (sym last) least_opposite
  where
    last : n ≡ 2147483647
    last = omega (arith, ints, many, fits)

farther : (d : ℤ) → FitsSigned w32 d → wrapped (pos (unsigned_abs d)) ≡ int_max d (wrapped (neg_ℤ d))
farther (pos n) fits = int_wrap_fits w32 (pos n) fits ∙ above ∙ ap (int_max (pos n)) (sym (int_wrap_fits w32 (neg_ℤ (pos n)) other))
  where
    other : FitsSigned w32 (neg_ℤ (pos n))
    other = omega (arith, ints, fits)

    above : pos n ≡ int_max (pos n) (neg_ℤ (pos n))
    above = omega (arith, ints, clamps)
farther (negsuc n) fits = opposite_above n (cases_lt n 2147483647) fits

module _ (a b : Formula) where
  distance : Stands (binary Max (binary Sub a b) (binary Sub b a)) (unary Abs (binary Sub a b))
  distance =
      by_value (binary Max (binary Sub a b) (binary Sub b a)) (unary Abs (binary Sub a b)) (λ is. is.0)
      (λ env r c.
      let x = formula_value env a r c in
      let y = formula_value env b r c in
      farther (wrapped (x -ℤ y)) (SFits-int_wrap w32 (x -ℤ y)) ∙ ap (int_max (wrapped (x -ℤ y))) (sym (opposite x y)))
      (λ Q. All-left Q (reads_in a ++ reads_in b) (reads_in b ++ reads_in a))
      (λ Q each. All-append Q (reads_in a ++ reads_in b) (reads_in b ++ reads_in a) each (exchanged_lists Q (reads_in a) (reads_in b) each))

pub distance_found : (f g a b p q : Formula) → f ≡ binary Sub a b → g ≡ binary Sub p q → a ≡ q → b ≡ p → Rewrites (binary Max f g) (unary Abs f)
distance_found f g a b p q left right first second =
    subst (λ (x : Formula). Rewrites (binary Max x g) (unary Abs x)) (sym left)
    (subst (λ (x : Formula). Rewrites (binary Max (binary Sub a b) x) (unary Abs (binary Sub a b))) (sym right)
    (subst (λ (x : Formula). Rewrites (binary Max (binary Sub a b) x) (unary Abs (binary Sub a b))) (λ i. binary Sub (second i) (first i))
    (rewrites (binary Max (binary Sub a b) (binary Sub b a)) (unary Abs (binary Sub a b)) (distance a b))))

-- ---- comparisons

module _ (Q : Read → Type 0) (xs ys us vs : List Read) where
  -- the first of four behind the second
  first_two_exchanged : All Q (xs ++ ys ++ us ++ vs) → All Q (ys ++ xs ++ us ++ vs)
  first_two_exchanged each =
      let three : All Q (xs ++ ys ++ us) = All-left Q (xs ++ ys ++ us) vs each in
      All-append Q (ys ++ xs ++ us) vs
      (All-append Q (ys ++ xs) us (exchanged_lists Q xs ys (All-left Q (xs ++ ys) us three)) (All-right Q (xs ++ ys) us three))
      (All-right Q (xs ++ ys ++ us) vs each)

pub comparison_turned : (relation other : Relation) (a b p q : Formula) → ((x y : ℤ) → is_related other y x ≡ is_related relation x y)
    → Rewrites (select a relation b p q) (select b other a p q)
comparison_turned relation other a b p q mirrored =
    rewrites (select a relation b p q) (select b other a p q)
    (by_value (select a relation b p q) (select b other a p q) (λ is. (is.1, is.0, is.2, is.3))
    (λ env r c.
    ap (λ (holds : Bool). if holds then formula_value env p r c else formula_value env q r c)
    (mirrored (formula_value env a r c) (formula_value env b r c)))
    (λ Q. first_two_exchanged Q (reads_in a) (reads_in b) (reads_in p) (reads_in q))
    (λ Q. first_two_exchanged Q (reads_in b) (reads_in a) (reads_in p) (reads_in q)))
