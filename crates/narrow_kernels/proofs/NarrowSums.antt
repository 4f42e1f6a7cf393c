-- Sums over lists whose first items are taken by their places.
use Rattle.std.proofs.Common.{arith, ℕ, ℤ, pos, ◌≡◌, ◌≤◌, ◌<◌, ◌-◌, ◌+ℤ◌, List, [], ◌∷◌, length, take, drop, take-append-drop, get_or, get_or-take, length-take, ◌++◌, ap, sym, ◌∙◌}
use Rattle.std.proofs.Math.IntN.{+ℤ_assoc, +ℤ_idl, +ℤ_idr}
use Rattle.std.proofs.lemmas.List.{take_all, length-drop}
use Rattle.narrow_kernels.specs.NarrowTerms.{narrow_term_sum}

module _ {A : Type 0} (f : A → ℤ) where
  -- one item, and up to four
  sum_of_one : (xs : List A) (a : A) → 1 ≤ length xs → length xs < 2 → a ≡ get_or xs 0 a → narrow_term_sum f xs ≡ f a
  sum_of_one [] a some few is = absurd (omega arith)
  sum_of_one (x ∷ []) a some few is = +ℤ_idr (f x) ∙ ap f (sym is)
  sum_of_one (x ∷ y ∷ xs) a some few is = absurd (omega arith)

  pub sum_of_two : (xs : List A) (a b : A) → 2 ≤ length xs → length xs < 3 → a ≡ get_or xs 0 a → b ≡ get_or xs 1 b
      → narrow_term_sum f xs ≡ f a +ℤ f b
  sum_of_two [] a b some few is one = absurd (omega arith)
  sum_of_two (x ∷ xs) a b some few is one = λ i. f (sym is i) +ℤ sum_of_one xs b (omega arith) (omega arith) one i

  pub sum_of_three : (xs : List A) (a b c : A) → 3 ≤ length xs → length xs < 4 → a ≡ get_or xs 0 a → b ≡ get_or xs 1 b
      → c ≡ get_or xs 2 c → narrow_term_sum f xs ≡ f a +ℤ (f b +ℤ f c)
  sum_of_three [] a b c some few is one two = absurd (omega arith)
  sum_of_three (x ∷ xs) a b c some few is one two = λ i. f (sym is i) +ℤ sum_of_two xs b c (omega arith) (omega arith) one two i

  pub sum_of_four : (xs : List A) (a b c d : A) → 4 ≤ length xs → length xs < 5 → a ≡ get_or xs 0 a → b ≡ get_or xs 1 b
      → c ≡ get_or xs 2 c → d ≡ get_or xs 3 d → narrow_term_sum f xs ≡ f a +ℤ (f b +ℤ (f c +ℤ f d))
  sum_of_four [] a b c d some few is one two three = absurd (omega arith)
  sum_of_four (x ∷ xs) a b c d some few is one two three =
      λ i. f (sym is i) +ℤ sum_of_three xs b c d (omega arith) (omega arith) one two three i

  -- five items
  sum_of_five : (xs : List A) (a b c d e : A) → 5 ≤ length xs → length xs < 6 → a ≡ get_or xs 0 a → b ≡ get_or xs 1 b
      → c ≡ get_or xs 2 c → d ≡ get_or xs 3 d → e ≡ get_or xs 4 e → narrow_term_sum f xs ≡ f a +ℤ (f b +ℤ (f c +ℤ (f d +ℤ f e)))
  sum_of_five [] a b c d e some few is one two three four = absurd (omega arith)
  sum_of_five (x ∷ xs) a b c d e some few is one two three four =
      λ i. f (sym is i) +ℤ sum_of_four xs b c d e (omega arith) (omega arith) one two three four i

  -- one list, and another
  pub sum_joined : (xs ys : List A) → narrow_term_sum f (xs ++ ys) ≡ narrow_term_sum f xs +ℤ narrow_term_sum f ys
  sum_joined [] ys = sym (+ℤ_idl (narrow_term_sum f ys))
  sum_joined (x ∷ xs) ys =
      ap (λ (z : ℤ). f x +ℤ z) (sum_joined xs ys) ∙ sym (+ℤ_assoc (f x) (narrow_term_sum f xs) (narrow_term_sum f ys))

  -- the first five, and the others
  pub sum_with_five : (xs : List A) (a b c d e : A) → 5 ≤ length xs → a ≡ get_or xs 0 a → b ≡ get_or xs 1 b
      → c ≡ get_or xs 2 c → d ≡ get_or xs 3 d → e ≡ get_or xs 4 e
      → (f a +ℤ (f b +ℤ (f c +ℤ (f d +ℤ f e)))) +ℤ narrow_term_sum f (take (length xs - 5) (drop 5 xs)) ≡ narrow_term_sum f xs
  sum_with_five xs a b c d e some is one two three four =
      (λ i. sym (sum_of_five (take 5 xs) a b c d e (grind (arith, length-take)) (grind (arith, length-take)) (first 0 a (omega arith) is)
      (first 1 b (omega arith) one) (first 2 c (omega arith) two) (first 3 d (omega arith) three) (first 4 e (omega arith) four)) i
      +ℤ narrow_term_sum f (take_all (length xs - 5) (drop 5 xs) (grind (arith, length-drop)) i))
      ∙ sym (sum_joined (take 5 xs) (drop 5 xs)) ∙ ap (narrow_term_sum f) (take-append-drop 5 xs)
    where
      first : (n : ℕ) (a : A) → n < 5 → a ≡ get_or xs n a → a ≡ get_or (take 5 xs) n a
      first n a l is = is ∙ sym (get_or-take 5 xs n a l)

  module _ (sum : List A → ℤ) (none : sum [] ≡ pos 0) (more : (x : A) (xs : List A) → sum (x ∷ xs) ≡ f x +ℤ sum xs) where
    -- a sum that is added in the same way
    pub same_sum : (xs : List A) → narrow_term_sum f xs ≡ sum xs
    same_sum [] = sym none
    same_sum (x ∷ xs) = ap (λ (z : ℤ). f x +ℤ z) (same_sum xs) ∙ sym (more x xs)

    -- the first items, and the others
    pub sum_split : (n : ℕ) (xs front back : List A) → front ≡ take n xs → back ≡ drop n xs → sum front +ℤ sum back ≡ sum xs
    sum_split n xs front back e h =
        (λ i. sum (e i) +ℤ sum (h i)) ∙ (λ i. sym (same_sum (take n xs)) i +ℤ sym (same_sum (drop n xs)) i)
        ∙ sym (sum_joined (take n xs) (drop n xs)) ∙ ap (narrow_term_sum f) (take-append-drop n xs) ∙ same_sum xs
