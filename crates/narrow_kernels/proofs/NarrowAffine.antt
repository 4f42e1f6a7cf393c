-- Affine maps of sums and of products.
use Rattle.std.proofs.Common.{arith, ℕ, ◌^◌, ℤ, ◌≡◌, pos, ◌+ℤ◌, ◌*ℤ◌, subst, sym, refl, FitsSigned}
use Rattle.std.specs.Int.{w16}
use Rattle.std.proofs.lemmas.Int.{ints}
use Rattle.domains.specs.Arithmetic.{floor_div}
use Rattle.domains.proofs.Floors.{floor_only}
use Rattle.narrow_kernels.specs.NarrowAffine.{affine_value, FitsAffine}

-- ---- a number that is added before the division

addend_moved : (a n x : ℤ) → pos 1 *ℤ (x +ℤ n) +ℤ a ≡ pos 1 *ℤ x +ℤ (a +ℤ n)
addend_moved a n x = omega (arith, ints)

addend_value : (a n : ℤ) (b : ℕ) (o x : ℤ) → affine_value (pos 1) (a +ℤ n) b o x ≡ affine_value (pos 1) a b o (x +ℤ n)
addend_value a n b o x =
    subst (λ (z : ℤ). floor_div z (pos (2 ^ b)) +ℤ o ≡ affine_value (pos 1) a b o (x +ℤ n)) (addend_moved a n x) refl

one_times : (x : ℤ) → x ≡ pos 1 *ℤ x
one_times x = omega (arith, ints)

addend_fits : (a n : ℤ) (b : ℕ) (o x : ℤ) → FitsSigned w16 x → FitsAffine (pos 1) a b o (x +ℤ n) → FitsAffine (pos 1) (a +ℤ n) b o x
addend_fits a n b o x h old = record {
  product = subst (λ (z : ℤ). FitsSigned w16 z) (one_times x) h;
  sum = subst (λ (z : ℤ). FitsSigned w16 z) (addend_moved a n x) old.sum;
  value = subst (λ (z : ℤ). FitsSigned w16 z) (sym (addend_value a n b o x)) old.value;
}

-- ---- a number that is added behind the division by one

by_one : (z : ℤ) → floor_div z (pos (2 ^ 0)) ≡ z
by_one z =
    sym (floor_only z (pos 1) z (pos 0) (omega (arith, ints)) (record { split = omega (arith, ints); least = omega (arith, ints); below = omega (arith, ints) })).0

identity_value : (o x : ℤ) → affine_value (pos 1) (pos 0) 0 o x ≡ x +ℤ o
identity_value o x =
    let sum : pos 1 *ℤ x +ℤ pos 0 ≡ x = omega (arith, ints) in
    subst (λ (z : ℤ). z +ℤ o ≡ x +ℤ o) (sym (by_one (pos 1 *ℤ x +ℤ pos 0)))
    (subst (λ (z : ℤ). z +ℤ o ≡ x +ℤ o) (sym sum) refl)

offset_value : (o n x : ℤ) → affine_value (pos 1) (pos 0) 0 (o +ℤ n) x ≡ affine_value (pos 1) (pos 0) 0 o (x +ℤ n)
offset_value o n x =
    let new = identity_value (o +ℤ n) x in
    let old = identity_value o (x +ℤ n) in
    omega (arith, ints, new, old)

offset_fits : (o n x : ℤ) → FitsSigned w16 x → FitsAffine (pos 1) (pos 0) 0 o (x +ℤ n) → FitsAffine (pos 1) (pos 0) 0 (o +ℤ n) x
offset_fits o n x h old =
    let sum : pos 1 *ℤ x +ℤ pos 0 ≡ x = omega (arith, ints) in
    record {
      product = subst (λ (z : ℤ). FitsSigned w16 z) (one_times x) h;
      sum = subst (λ (z : ℤ). FitsSigned w16 z) (sym sum) h;
      value = subst (λ (z : ℤ). FitsSigned w16 z) (sym (offset_value o n x)) old.value;
    }

-- ---- a factor

product_moved : (p a : ℤ) → pos 1 *ℤ p +ℤ a ≡ p +ℤ a
product_moved p a = omega (arith, ints)

factor_value : (m a : ℤ) (b : ℕ) (o x : ℤ) → affine_value m a b o x ≡ affine_value (pos 1) a b o (m *ℤ x)
factor_value m a b o x =
    subst (λ (z : ℤ). floor_div z (pos (2 ^ b)) +ℤ o ≡ affine_value (pos 1) a b o (m *ℤ x)) (product_moved (m *ℤ x) a) refl

factor_fits : (m a : ℤ) (b : ℕ) (o x : ℤ) → FitsAffine (pos 1) a b o (m *ℤ x) → FitsAffine m a b o x
factor_fits m a b o x old = record {
  product = subst (λ (z : ℤ). FitsSigned w16 z) (sym (one_times (m *ℤ x))) old.product;
  sum = subst (λ (z : ℤ). FitsSigned w16 z) (product_moved (m *ℤ x) a) old.sum;
  value = subst (λ (z : ℤ). FitsSigned w16 z) (sym (factor_value m a b o x)) old.value;
}

-- ---- the same of numbers that are equal to these

module _ (f a : ℤ) (b : ℕ) (o n x f' a' : ℤ) (b' : ℕ) (o' : ℤ) (is : f ≡ pos 1) where
  pub offset_value_at : a ≡ pos 0 → b ≡ 0 → f' ≡ pos 1 → a' ≡ pos 0 → b' ≡ 0 → o' ≡ o +ℤ n
      → affine_value f' a' b' o' x ≡ affine_value f a b o (x +ℤ n)
  offset_value_at e1 e2 e3 e4 e5 e6 = rw (is, e1, e2, e3, e4, e5, e6) (offset_value o n x)

  pub offset_fits_at : a ≡ pos 0 → b ≡ 0 → f' ≡ pos 1 → a' ≡ pos 0 → b' ≡ 0 → o' ≡ o +ℤ n → FitsSigned w16 x
      → FitsAffine f a b o (x +ℤ n) → FitsAffine f' a' b' o' x
  offset_fits_at e1 e2 e3 e4 e5 e6 h old = rw (e3, e4, e5, e6) (offset_fits o n x h (rw (is, e1, e2) at old))

  pub addend_value_at : f' ≡ pos 1 → a' ≡ a +ℤ n → b' ≡ b → o' ≡ o → affine_value f' a' b' o' x ≡ affine_value f a b o (x +ℤ n)
  addend_value_at e1 e2 e3 e4 = rw (is, e1, e2, e3, e4) (addend_value a n b o x)

  pub addend_fits_at : f' ≡ pos 1 → a' ≡ a +ℤ n → b' ≡ b → o' ≡ o → FitsSigned w16 x
      → FitsAffine f a b o (x +ℤ n) → FitsAffine f' a' b' o' x
  addend_fits_at e1 e2 e3 e4 h old = rw (e1, e2, e3, e4) (addend_fits a n b o x h (rw is at old))

  pub factor_value_at : f' ≡ n → a' ≡ a → b' ≡ b → o' ≡ o → affine_value f' a' b' o' x ≡ affine_value f a b o (n *ℤ x)
  factor_value_at e1 e2 e3 e4 = rw (is, e1, e2, e3, e4) (factor_value n a b o x)

  pub factor_fits_at : f' ≡ n → a' ≡ a → b' ≡ b → o' ≡ o → FitsAffine f a b o (n *ℤ x) → FitsAffine f' a' b' o' x
  factor_fits_at e1 e2 e3 e4 old = rw (e1, e2, e3, e4) (factor_fits n a b o x (rw is at old))
