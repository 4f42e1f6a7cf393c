-- Totals one value after the other, in parts, and in any order.
use Rattle.std.proofs.Common.{arith, ℕ, suc, ◌+◌, ◌≡◌, ℤ, pos, negsuc, ◌+ℤ◌, ◌-ℤ◌, ◌≤ℤ◌, inl, inr, ⊎_elim, subst, w64, List, []}
use Rattle.std.proofs.Common.{◌∷◌, ◌++◌, ap, sym, ◌∙◌, refl}
use Rattle.std.specs.Prelude.{◌⊎◌, All, Contains, Bool, map, filter, fold, IsPermutation}
use Rattle.std.specs.Int.{int_wrap, int_min, int_max}
use Rattle.std.specs.List.{sum_by}
use Rattle.std.proofs.lemmas.Int.{ints, clamps, int_wrap-add_left, int_wrap-add_right, fold-int_min_bounds, fold-int_max_bounds}
use Rattle.std.proofs.lemmas.Int.{fold-int_min_reached, fold-int_max_reached}
use Rattle.std.proofs.lemmas.List.{map-append}
use Rattle.std.proofs.lemmas.List.Elements.{All-contains, filter-append}
use Rattle.std.proofs.lemmas.List.Sorted.{IsPermutation-sym, Contains-permutation, sum_by-IsPermutation}
use Rattle.domains.specs.Arithmetic.{wrapped_long}
use Rattle.operators.specs.declared.operator.ReductionOp.{ReductionOp}
use Rattle.operators.specs.declared.operator.ReductionOp.TheVariants.{Sum, Min, Max}
use Rattle.job.specs.Totals.{start_of, total_of, joined}
use Rattle.job.proofs.Joining.{total_of-append}

-- ---- one value after the other

wrapped_on_the_way : (a : ℤ) (vs : List ℤ) → fold (joined Sum) (wrapped_long a) vs ≡ wrapped_long (fold ◌+ℤ◌ a vs)
wrapped_on_the_way a [] = refl
wrapped_on_the_way a (x ∷ xs) = ap (λ (z : ℤ). fold (joined Sum) z xs) (int_wrap-add_left w64 a x) ∙ wrapped_on_the_way (a +ℤ x) xs

least_on_the_way : (a : ℤ) (vs : List ℤ) → fold (joined Min) a vs ≡ fold int_min a vs
least_on_the_way a [] = refl
least_on_the_way a (x ∷ xs) = least_on_the_way (int_min a x) xs

greatest_on_the_way : (a : ℤ) (vs : List ℤ) → fold (joined Max) a vs ≡ fold int_max a vs
greatest_on_the_way a [] = refl
greatest_on_the_way a (x ∷ xs) = greatest_on_the_way (int_max a x) xs

-- a total is its values joined with the start, one after the other
pub total_by_values : (way : ReductionOp) (vs : List ℤ) → fold (joined way) (start_of way) vs ≡ total_of way vs
unfolding int_wrap
total_by_values Sum vs = wrapped_on_the_way (pos 0) vs
total_by_values Min vs = least_on_the_way (start_of Min) vs
total_by_values Max vs = greatest_on_the_way (start_of Max) vs

-- no value leaves the start
pub total_of-none : (way : ReductionOp) → total_of way [] ≡ start_of way
unfolding int_wrap
total_of-none Sum = refl
total_of-none Min = refl
total_of-none Max = refl

-- ---- in parts

plus-comm : (a b : ℤ) → a +ℤ b ≡ b +ℤ a
plus-comm a b = omega (arith, ints)

plus-assoc : (a b x : ℤ) → a +ℤ b +ℤ x ≡ a +ℤ (b +ℤ x)
plus-assoc a b x = omega (arith, ints)

pub joined-comm : (way : ReductionOp) (a b : ℤ) → joined way a b ≡ joined way b a
joined-comm Sum a b = ap wrapped_long (plus-comm a b)
joined-comm Min a b = omega (arith, ints, clamps)
joined-comm Max a b = omega (arith, ints, clamps)

pub joined-assoc : (way : ReductionOp) (a b x : ℤ) → joined way (joined way a b) x ≡ joined way a (joined way b x)
joined-assoc Sum a b x = int_wrap-add_left w64 (a +ℤ b) x ∙ ap wrapped_long (plus-assoc a b x) ∙ sym (int_wrap-add_right w64 a (b +ℤ x))
joined-assoc Min a b x = omega (arith, ints, clamps)
joined-assoc Max a b x = omega (arith, ints, clamps)

-- the middle two of four change places
pub joined-exchange : (way : ReductionOp) (a b x y : ℤ)
    → joined way (joined way a b) (joined way x y) ≡ joined way (joined way a x) (joined way b y)
joined-exchange way a b x y =
    joined-assoc way a b (joined way x y)
    ∙ ap (joined way a) (sym (joined-assoc way b x y) ∙ ap (λ (z : ℤ). joined way z y) (joined-comm way b x) ∙ joined-assoc way x b y)
    ∙ sym (joined-assoc way a x (joined way b y))

pub starts_join : (way : ReductionOp) → joined way (start_of way) (start_of way) ≡ start_of way
unfolding int_wrap
starts_join Sum = refl
starts_join Min = refl
starts_join Max = refl

-- the total of the values of the points that pass a test
module _ {P : Type 0} (way : ReductionOp) (value : P → ℤ) (test : P → Bool) where
  abbrev pub total_among : List P → ℤ
  total_among ps = total_of way (map value (filter test ps))

  pub total_among-append : (ps qs : List P) → total_among (ps ++ qs) ≡ joined way (total_among ps) (total_among qs)
  total_among-append ps qs =
      ap (λ (xs : List P). total_of way (map value xs)) (filter-append test ps qs)
      ∙ ap (total_of way) (map-append value (filter test ps) (filter test qs))
      ∙ total_of-append way (map value (filter test ps)) (map value (filter test qs))

-- ---- in any order

abbrev above : ℤ → ℕ
above (pos n) = n
above (negsuc n) = 0

abbrev below : ℤ → ℕ
below (pos n) = 0
below (negsuc n) = suc n

split : (z : ℤ) → z ≡ pos (above z) -ℤ pos (below z)
split (pos n) = omega (arith, ints)
split (negsuc n) = omega (arith, ints)

sum_after : (f : ℤ → ℕ) (n : ℕ) (zs : List ℤ) → fold (λ a z. a + f z) n zs ≡ n + sum_by f zs
sum_after f n [] = omega arith
sum_after f n (z ∷ zs) = omega (arith, sum_after f (n + f z) zs, sum_after f (0 + f z) zs)

sum_split : (a : ℤ) (zs : List ℤ) → fold ◌+ℤ◌ a zs ≡ a +ℤ pos (sum_by above zs) -ℤ pos (sum_by below zs)
sum_split a [] = omega (arith, ints)
sum_split a (z ∷ zs) =
    omega (arith, ints, split z, sum_split (a +ℤ z) zs, sum_after above (0 + above z) zs, sum_after below (0 + below z) zs)

same_sum : (xs ys : List ℤ) → IsPermutation xs ys → fold ◌+ℤ◌ (pos 0) ys ≡ fold ◌+ℤ◌ (pos 0) xs
same_sum xs ys moved =
    let up = sum_by-IsPermutation above xs ys moved in
    let down = sum_by-IsPermutation below xs ys moved in
    sum_split (pos 0) ys ∙ (λ i. pos 0 +ℤ pos (up i) -ℤ pos (down i)) ∙ sym (sum_split (pos 0) xs)

reached : (P : ℤ → Type 0) (s r : ℤ) (xs : List ℤ) → P s → All P xs → (r ≡ s) ⊎ Contains xs r → P r
reached P s r xs first each (inl is) = subst P (sym is) first
reached P s r xs first each (inr there) = All-contains P xs r each there

least_kept : (s : ℤ) (xs ys : List ℤ) → IsPermutation xs ys → fold int_min s xs ≤ℤ fold int_min s ys
least_kept s xs ys moved =
    let least = fold-int_min_bounds s xs (fold int_min s xs) refl in
    reached (λ z. fold int_min s xs ≤ℤ z) s (fold int_min s ys) xs least.0 least.1
    (⊎_elim inl (λ there. inr (Contains-permutation ys xs (fold int_min s ys) (IsPermutation-sym xs ys moved) there))
    (fold-int_min_reached s ys (fold int_min s ys) refl))

greatest_kept : (s : ℤ) (xs ys : List ℤ) → IsPermutation xs ys → fold int_max s ys ≤ℤ fold int_max s xs
greatest_kept s xs ys moved =
    let most = fold-int_max_bounds s xs (fold int_max s xs) refl in
    reached (λ z. z ≤ℤ fold int_max s xs) s (fold int_max s ys) xs most.0 most.1
    (⊎_elim inl (λ there. inr (Contains-permutation ys xs (fold int_max s ys) (IsPermutation-sym xs ys moved) there))
    (fold-int_max_reached s ys (fold int_max s ys) refl))

antisym : (a b : ℤ) → a ≤ℤ b → b ≤ℤ a → a ≡ b
antisym a b h k = omega (arith, ints)

-- a total does not depend on the order of its values
pub total_of-permuted : (way : ReductionOp) (xs ys : List ℤ) → IsPermutation xs ys → total_of way ys ≡ total_of way xs
total_of-permuted Sum xs ys moved = ap wrapped_long (same_sum xs ys moved)
total_of-permuted Min xs ys moved =
    antisym _ _ (least_kept (start_of Min) ys xs (IsPermutation-sym xs ys moved)) (least_kept (start_of Min) xs ys moved)
total_of-permuted Max xs ys moved =
    antisym _ _ (greatest_kept (start_of Max) xs ys moved) (greatest_kept (start_of Max) ys xs (IsPermutation-sym xs ys moved))
