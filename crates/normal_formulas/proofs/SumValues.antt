-- Values of sums of factors times numbers, wrapped at 32 bits.
use Rattle.std.proofs.Common.{arith, ℕ, ℤ, ◌≡◌, pos, negsuc, neg_ℤ, ◌^◌, ◌+ℤ◌, ◌-ℤ◌, ◌*ℤ◌, w32, to_z, of_z, FitsSigned, ap, sym, subst, ◌∙◌}
use Rattle.std.proofs.Math.IntN.{*ℤ_comm}
use Rattle.std.proofs.lemmas.Int.{ints, to_z-of_z, SFits-int_wrap, int_wrap_fits, int_wrap-add_left, int_wrap-add_right, int_wrap-mul_left, int_wrap-mul_right}
use Rattle.domains.specs.Arithmetic.{wrapped}
use Rattle.normal_formulas.proofs.Products.{one_times, over_sum, over_difference, sum_times, negated_times, times_negated, three_factors}

-- ---- what is wrapped within

one : (x s : ℤ) → wrapped (wrapped x +ℤ s) ≡ wrapped (x +ℤ s)
one x s = int_wrap-add_left w32 x s

last : (x s : ℤ) → wrapped (x +ℤ wrapped s) ≡ wrapped (x +ℤ s)
last x s = int_wrap-add_right w32 x s

two : (x y s : ℤ) → wrapped (wrapped x +ℤ wrapped (wrapped y +ℤ s)) ≡ wrapped (x +ℤ (y +ℤ s))
two x y s = one x (wrapped (wrapped y +ℤ s)) ∙ last x (wrapped y +ℤ s) ∙ ap wrapped (turned x (wrapped y) s)
    ∙ one y (x +ℤ s) ∙ ap wrapped (turned y x s)
  where
    turned : (a b c : ℤ) → a +ℤ (b +ℤ c) ≡ b +ℤ (a +ℤ c)
    turned a b c = omega (arith, ints)

-- a factor that is wrapped, and a value that is
factor_wrapped : (f v s : ℤ) → wrapped (wrapped (wrapped f *ℤ v) +ℤ s) ≡ wrapped (f *ℤ v +ℤ s)
factor_wrapped f v s = ap (λ (z : ℤ). wrapped (z +ℤ s)) (int_wrap-mul_left w32 f v) ∙ one (f *ℤ v) s

value_wrapped : (f v s : ℤ) → wrapped (wrapped (f *ℤ wrapped v) +ℤ s) ≡ wrapped (f *ℤ v +ℤ s)
value_wrapped f v s = ap (λ (z : ℤ). wrapped (z +ℤ s)) (int_wrap-mul_right w32 f v) ∙ one (f *ℤ v) s

-- ---- each law

pub exchanged : (x y z : ℤ) → wrapped (y +ℤ wrapped (x +ℤ z)) ≡ wrapped (x +ℤ wrapped (y +ℤ z))
exchanged x y z = last y (x +ℤ z) ∙ ap wrapped (turned y x z) ∙ sym (last x (y +ℤ z))
  where
    turned : (a b c : ℤ) → a +ℤ (b +ℤ c) ≡ b +ℤ (a +ℤ c)
    turned a b c = omega (arith, ints)

pub number_added : (f n c : ℤ) → wrapped (c +ℤ wrapped (f *ℤ n)) ≡ wrapped (wrapped (f *ℤ n) +ℤ c)
number_added f n c = ap wrapped (turned c (wrapped (f *ℤ n)))
  where
    turned : (a b : ℤ) → a +ℤ b ≡ b +ℤ a
    turned a b = omega (arith, ints)

pub merged : (f g v s : ℤ) → wrapped (wrapped (wrapped (g +ℤ f) *ℤ v) +ℤ s) ≡ wrapped (wrapped (f *ℤ v) +ℤ wrapped (wrapped (g *ℤ v) +ℤ s))
merged f g v s = factor_wrapped (g +ℤ f) v s ∙ ap wrapped (turned (f *ℤ v) (g *ℤ v) _ s (sum_times g f v)) ∙ sym (two (f *ℤ v) (g *ℤ v) s)
  where
    turned : (a b x c : ℤ) → x ≡ b +ℤ a → x +ℤ c ≡ a +ℤ (b +ℤ c)
    turned a b x c e = omega (arith, ints, e)

pub sum_spread : (f a b s : ℤ) → wrapped (wrapped (f *ℤ b) +ℤ wrapped (wrapped (f *ℤ a) +ℤ s)) ≡ wrapped (wrapped (f *ℤ wrapped (a +ℤ b)) +ℤ s)
sum_spread f a b s = two (f *ℤ b) (f *ℤ a) s ∙ ap wrapped (turned (f *ℤ a) (f *ℤ b) _ s (over_sum f a b)) ∙ sym (value_wrapped f (a +ℤ b) s)
  where
    turned : (p q x c : ℤ) → x ≡ p +ℤ q → q +ℤ (p +ℤ c) ≡ x +ℤ c
    turned p q x c e = omega (arith, ints, e)

pub difference_spread : (f a b s : ℤ)
    → wrapped (wrapped (wrapped (neg_ℤ f) *ℤ b) +ℤ wrapped (wrapped (f *ℤ a) +ℤ s)) ≡ wrapped (wrapped (f *ℤ wrapped (a -ℤ b)) +ℤ s)
difference_spread f a b s =
    factor_wrapped (neg_ℤ f) b (wrapped (wrapped (f *ℤ a) +ℤ s))
    ∙ sym (one (neg_ℤ f *ℤ b) (wrapped (wrapped (f *ℤ a) +ℤ s)))
    ∙ two (neg_ℤ f *ℤ b) (f *ℤ a) s
    ∙ ap wrapped (turned (f *ℤ a) (f *ℤ b) _ _ s (over_difference f a b) (negated_times f b))
    ∙ sym (value_wrapped f (a -ℤ b) s)
  where
    turned : (p q x y c : ℤ) → x ≡ p -ℤ q → y ≡ neg_ℤ q → y +ℤ (p +ℤ c) ≡ x +ℤ c
    turned p q x y c d e = omega (arith, ints, d, e)

pub negation_spread : (f a s : ℤ) → wrapped (wrapped (wrapped (neg_ℤ f) *ℤ a) +ℤ s) ≡ wrapped (wrapped (f *ℤ wrapped (neg_ℤ a)) +ℤ s)
negation_spread f a s =
    factor_wrapped (neg_ℤ f) a s
    ∙ ap (λ (z : ℤ). wrapped (z +ℤ s)) (negated_times f a ∙ sym (times_negated f a))
    ∙ sym (value_wrapped f (neg_ℤ a) s)

pub left_spread : (f n a s : ℤ) → wrapped (wrapped (wrapped (f *ℤ n) *ℤ a) +ℤ s) ≡ wrapped (wrapped (f *ℤ wrapped (n *ℤ a)) +ℤ s)
left_spread f n a s =
    factor_wrapped (f *ℤ n) a s ∙ ap (λ (z : ℤ). wrapped (z +ℤ s)) (three_factors f n a) ∙ sym (value_wrapped f (n *ℤ a) s)

pub right_spread : (f n a s : ℤ) → wrapped (wrapped (wrapped (f *ℤ n) *ℤ a) +ℤ s) ≡ wrapped (wrapped (f *ℤ wrapped (a *ℤ n)) +ℤ s)
right_spread f n a s = left_spread f n a s ∙ ap (λ (z : ℤ). wrapped (wrapped (f *ℤ wrapped z) +ℤ s)) (*ℤ_comm n a)

-- ---- alone

pub alone : (v : ℤ) → FitsSigned w32 v → wrapped (wrapped (pos 1 *ℤ v) +ℤ pos 0) ≡ v
alone v fits =
    one (pos 1 *ℤ v) (pos 0) ∙ ap wrapped (ap (λ (z : ℤ). z +ℤ pos 0) (one_times v) ∙ nothing_more v) ∙ int_wrap_fits w32 v fits
  where
    nothing_more : (z : ℤ) → z +ℤ pos 0 ≡ z
    nothing_more z = omega (arith, ints)

pub without_number : (v c : ℤ) → c ≡ pos 0 → FitsSigned w32 v → wrapped (v +ℤ c) ≡ v
without_number v c e fits = ap wrapped (nothing_more v c e) ∙ int_wrap_fits w32 v fits
  where
    nothing_more : (z d : ℤ) → d ≡ pos 0 → z +ℤ d ≡ z
    nothing_more z d e = omega (arith, ints, e)

-- a factor of 1 or of -1 first
pub first_of_one : (f v s : ℤ) → f ≡ pos 1 → wrapped (v +ℤ s) ≡ wrapped (wrapped (f *ℤ v) +ℤ s)
first_of_one f v s e = ap (λ (z : ℤ). wrapped (z +ℤ s)) (sym (ap (λ (z : ℤ). z *ℤ v) e ∙ one_times v)) ∙ sym (one (f *ℤ v) s)

minus_one_times : (v : ℤ) → negsuc 0 *ℤ v ≡ neg_ℤ v
minus_one_times v = negated_times (pos 1) v ∙ ap neg_ℤ (one_times v)

pub first_of_minus_one : (f v s : ℤ) → f ≡ negsuc 0 → wrapped (wrapped (neg_ℤ v) +ℤ s) ≡ wrapped (wrapped (f *ℤ v) +ℤ s)
first_of_minus_one f v s e = ap (λ (z : ℤ). wrapped (wrapped z +ℤ s)) (sym (ap (λ (z : ℤ). z *ℤ v) e ∙ minus_one_times v))

-- ---- behind others

behind : (a x s : ℤ) → wrapped (wrapped (a +ℤ x) +ℤ s) ≡ wrapped (a +ℤ wrapped (wrapped x +ℤ s))
behind a x s =
    one (a +ℤ x) s ∙ ap wrapped (turned a x s) ∙ sym (last a (x +ℤ s)) ∙ ap (λ (z : ℤ). wrapped (a +ℤ z)) (sym (one x s))
  where
    turned : (p q c : ℤ) → p +ℤ q +ℤ c ≡ p +ℤ (q +ℤ c)
    turned p q c = omega (arith, ints)

pub behind_one : (a f v s : ℤ) → f ≡ pos 1 → wrapped (wrapped (a +ℤ v) +ℤ s) ≡ wrapped (a +ℤ wrapped (wrapped (f *ℤ v) +ℤ s))
behind_one a f v s e =
    behind a v s ∙ ap (λ (z : ℤ). wrapped (a +ℤ wrapped (wrapped z +ℤ s))) (sym (ap (λ (z : ℤ). z *ℤ v) e ∙ one_times v))

to_difference : (a v : ℤ) → a -ℤ v ≡ a +ℤ neg_ℤ v
to_difference a v = omega (arith, ints)

pub behind_minus_one : (a f v s : ℤ) → f ≡ negsuc 0 → wrapped (wrapped (a -ℤ v) +ℤ s) ≡ wrapped (a +ℤ wrapped (wrapped (f *ℤ v) +ℤ s))
behind_minus_one a f v s e =
    ap (λ (z : ℤ). wrapped (wrapped z +ℤ s)) (to_difference a v)
    ∙ behind a (neg_ℤ v) s
    ∙ ap (λ (z : ℤ). wrapped (a +ℤ wrapped (wrapped z +ℤ s))) (sym (ap (λ (z : ℤ). z *ℤ v) e ∙ minus_one_times v))

pub behind_product : (a f v s : ℤ) → wrapped (wrapped (a +ℤ wrapped (f *ℤ v)) +ℤ s) ≡ wrapped (a +ℤ wrapped (wrapped (f *ℤ v) +ℤ s))
behind_product a f v s = ap (λ (z : ℤ). wrapped (z +ℤ s)) (last a (f *ℤ v)) ∙ behind a (f *ℤ v) s

-- the product with the negation of a factor is taken away
pub behind_negation : (a f v s : ℤ)
    → wrapped (wrapped (a -ℤ wrapped (wrapped (neg_ℤ f) *ℤ v)) +ℤ s) ≡ wrapped (a +ℤ wrapped (wrapped (f *ℤ v) +ℤ s))
behind_negation a f v s =
    one (a -ℤ wrapped (wrapped (neg_ℤ f) *ℤ v)) s
    ∙ ap wrapped (to_sum a (wrapped (wrapped (neg_ℤ f) *ℤ v)) s)
    ∙ sym (last (a +ℤ s) (neg_ℤ (wrapped (wrapped (neg_ℤ f) *ℤ v))))
    ∙ ap (λ (z : ℤ). wrapped (a +ℤ s +ℤ z)) taken
    ∙ last (a +ℤ s) (f *ℤ v)
    ∙ ap wrapped (turned a s (f *ℤ v))
    ∙ sym (last a (f *ℤ v +ℤ s))
    ∙ ap (λ (z : ℤ). wrapped (a +ℤ z)) (sym (one (f *ℤ v) s))
  where
    to_sum : (p q c : ℤ) → p -ℤ q +ℤ c ≡ p +ℤ c +ℤ neg_ℤ q
    to_sum p q c = omega (arith, ints)

    turned : (p c q : ℤ) → p +ℤ c +ℤ q ≡ p +ℤ (q +ℤ c)
    turned p c q = omega (arith, ints)

    minus : (z : ℤ) → neg_ℤ z ≡ negsuc 0 *ℤ z
    minus z = sym (minus_one_times z)

    twice : (z : ℤ) → neg_ℤ (neg_ℤ z) ≡ z
    twice z = omega (arith, ints)

    taken : wrapped (neg_ℤ (wrapped (wrapped (neg_ℤ f) *ℤ v))) ≡ wrapped (f *ℤ v)
    taken =
        ap wrapped (minus (wrapped (wrapped (neg_ℤ f) *ℤ v)))
        ∙ int_wrap-mul_right w32 (negsuc 0) (wrapped (neg_ℤ f) *ℤ v)
        ∙ ap wrapped (sym (minus (wrapped (neg_ℤ f) *ℤ v)) ∙ sym (times_negated (wrapped (neg_ℤ f)) v))
        ∙ int_wrap-mul_left w32 (neg_ℤ f) (neg_ℤ v)
        ∙ ap wrapped (negated_times f (neg_ℤ v) ∙ ap neg_ℤ (times_negated f v) ∙ twice (f *ℤ v))

-- ---- bits of small numbers

pub of_zero : (f : ℤ) → FitsSigned w32 f → of_z w32 f ≡ 0 → f ≡ pos 0
of_zero f fits e = sym (to_z-of_z w32 f fits) ∙ ap (to_z w32) e

pub of_one : (f : ℤ) → FitsSigned w32 f → of_z w32 f ≡ 1 → f ≡ pos 1
of_one f fits e = sym (to_z-of_z w32 f fits) ∙ ap (to_z w32) e

pub of_minus_one : (f : ℤ) → FitsSigned w32 f → of_z w32 f ≡ 4294967295 → f ≡ negsuc 0
of_minus_one f fits e = sym (to_z-of_z w32 f fits) ∙ ap (to_z w32) e

-- ---- numbers that calls take

taken : (f : ℤ) → FitsSigned w32 f → to_z w32 (of_z w32 f) ≡ f
taken f fits = to_z-of_z w32 f fits

wrapped_taken : (r z : ℤ) → r ≡ wrapped z → to_z w32 (of_z w32 r) ≡ wrapped z
wrapped_taken r z e = taken r (subst (FitsSigned w32) (sym e) (SFits-int_wrap w32 z)) ∙ e

pub taken_sum : (f n r : ℤ) → FitsSigned w32 f → FitsSigned w32 n → r ≡ wrapped (to_z w32 (of_z w32 f) +ℤ to_z w32 (of_z w32 n))
    → to_z w32 (of_z w32 r) ≡ wrapped (f +ℤ n)
taken_sum f n r g h e = wrapped_taken r (to_z w32 (of_z w32 f) +ℤ to_z w32 (of_z w32 n)) e ∙ (λ i. wrapped (taken f g i +ℤ taken n h i))

pub taken_product : (f n r : ℤ) → FitsSigned w32 f → FitsSigned w32 n → r ≡ wrapped (to_z w32 (of_z w32 f) *ℤ to_z w32 (of_z w32 n))
    → to_z w32 (of_z w32 r) ≡ wrapped (f *ℤ n)
taken_product f n r g h e = wrapped_taken r (to_z w32 (of_z w32 f) *ℤ to_z w32 (of_z w32 n)) e ∙ (λ i. wrapped (taken f g i *ℤ taken n h i))

pub taken_negation : (f r : ℤ) → FitsSigned w32 f → r ≡ wrapped (neg_ℤ (to_z w32 (of_z w32 f))) → to_z w32 (of_z w32 r) ≡ wrapped (neg_ℤ f)
taken_negation f r g e = wrapped_taken r (neg_ℤ (to_z w32 (of_z w32 f))) e ∙ ap (λ (z : ℤ). wrapped (neg_ℤ z)) (taken f g)

pub taken_shift : (f r : ℤ) (n : ℕ) → FitsSigned w32 f → r ≡ wrapped (to_z w32 (of_z w32 f) *ℤ pos (2 ^ n))
    → to_z w32 (of_z w32 r) ≡ wrapped (f *ℤ pos (2 ^ n))
taken_shift f r n g e = wrapped_taken r (to_z w32 (of_z w32 f) *ℤ pos (2 ^ n)) e ∙ ap (λ (z : ℤ). wrapped (z *ℤ pos (2 ^ n))) (taken f g)

-- ---- a number that is taken away

pub number_away : (a c : ℤ) → wrapped (a -ℤ wrapped (neg_ℤ c)) ≡ wrapped (a +ℤ c)
number_away a c =
    ap wrapped (to_difference a (wrapped (neg_ℤ c))) ∙ sym (last a (neg_ℤ (wrapped (neg_ℤ c)))) ∙ ap (λ (z : ℤ). wrapped (a +ℤ z)) twice
    ∙ last a c
  where
    again : (z : ℤ) → neg_ℤ (neg_ℤ z) ≡ z
    again z = omega (arith, ints)

    twice : wrapped (neg_ℤ (wrapped (neg_ℤ c))) ≡ wrapped c
    twice =
        ap wrapped (sym (minus_one_times (wrapped (neg_ℤ c)))) ∙ int_wrap-mul_right w32 (negsuc 0) (neg_ℤ c)
        ∙ ap wrapped (minus_one_times (neg_ℤ c) ∙ again c)

pub with_nothing_more : (c : ℤ) → FitsSigned w32 c → wrapped (c +ℤ pos 0) ≡ c
with_nothing_more c fits = ap wrapped (nothing_more c) ∙ int_wrap_fits w32 c fits
  where
    nothing_more : (z : ℤ) → z +ℤ pos 0 ≡ z
    nothing_more z = omega (arith, ints)
