-- What is found first in lists, one after another.
use Rattle.std.proofs.Common.{arith, ℕ, zero, suc, ◌+◌, ◌<◌, ◌≡◌, ◌⊎◌, inl, inr, refl, ap, sym, ◌∙◌, subst, Bool, true, false}
use Rattle.std.proofs.Common.{cond, List, [], ◌∷◌, map, filter, drop, length, get_or, Option, Some, None}
use Rattle.std.specs.Prelude.{find, Contains}
use Rattle.std.specs.Option.{option_map, option_or, is_some}
use Rattle.std.specs.List.{flat_map, range_with_len}
use Rattle.std.proofs.lemmas.Bool.{cases_eq, false≢true, true≢false}
use Rattle.std.proofs.lemmas.List.{drop_more}
use Rattle.std.proofs.lemmas.Option.{none-some}
use Rattle.std.proofs.lemmas.List.Folds.{find-append}
use Rattle.std.proofs.lemmas.List.Concat.{flat_map_single}
use Rattle.domains.proofs.PairLists.{Contains-here}
use Rattle.std.proofs.lemmas.List.Elements.{Contains-append_right}
use Rattle.tile_boxes.proofs.Lists.{flat_map_range_more}

-- where none passes, none is found
pub none_of : {X : Type 0} → (p : X → Bool) (xs : List X) → ((x : X) → Contains xs x → p x ≡ false) → find p xs ≡ None
none_of p [] h = refl
none_of p (x ∷ xs) h =
    ap (λ b. cond b (Some x) (find p xs)) (h x (Contains-here x xs))
    ∙ none_of p xs (λ y there. h y (Contains-append_right (x ∷ []) xs y there))

-- of other elements
pub find_of : {X Y : Type 0} → (p : Y → Bool) (f : X → Y) (xs : List X) → find p (map f xs) ≡ option_map f (find (λ x. p (f x)) xs)
find_of p f [] = refl
find_of p f (x ∷ xs) = by (p (f x)) (find_of p f xs)
  where
    by : (b : Bool) → find p (map f xs) ≡ option_map f (find (λ y. p (f y)) xs)
        → cond b (Some (f x)) (find p (map f xs)) ≡ option_map f (cond b (Some x) (find (λ y. p (f y)) xs))
    by true rest = refl
    by false rest = rest

pub is_nothing : {X : Type 0} → (o : Option X) → is_some o ≡ false → o ≡ None
is_nothing None e = refl
is_nothing (Some x) e = absurd (true≢false e)

pub nothing_of : {X Y : Type 0} → (f : X → Y) (o : Option X) → None ≡ option_map f o → o ≡ None
nothing_of f None e = refl
nothing_of f (Some x) e = absurd (none-some (f x) e)

-- ---- the lists of the first numbers

module _ {X : Type 0} (p : X → Bool) (f : ℕ → List X) where
  -- one list more
  pub list_more : (n : ℕ) (o : Option X) → find p (flat_map f (range_with_len 0 n)) ≡ None → find p (f n) ≡ o
      → find p (flat_map f (range_with_len 0 (n + 1))) ≡ o
  list_more n o none here =
      ap (find p) (flat_map_range_more f n)
      ∙ find-append p (flat_map f (range_with_len 0 n)) (f n)
      ∙ (λ i. option_or (none i) (here i))

  -- what is found in one list, and in none before it
  pub list_found : (n k : ℕ) (x : X) → k < n → find p (flat_map f (range_with_len 0 k)) ≡ None → find p (f k) ≡ Some x
      → find p (flat_map f (range_with_len 0 n)) ≡ Some x
  list_found zero k x low none here = absurd (omega (arith, low))
  list_found (suc n) k x low none here = by (cases_eq k n) (λ earlier. list_found n k x earlier none here)
    where
      one : n + 1 ≡ suc n
      one = omega arith

      by : (k ≡ n) ⊎ (k ≡ n → ⊥) → (k < n → find p (flat_map f (range_with_len 0 n)) ≡ Some x)
          → find p (flat_map f (range_with_len 0 (suc n))) ≡ Some x
      by (inl e) before =
          subst (λ m. find p (flat_map f (range_with_len 0 m)) ≡ Some x) (ap (λ m. m + 1) e ∙ one) (list_more k (Some x) none here)
      by (inr ne) before =
          ap (λ m. find p (flat_map f (range_with_len 0 m))) (sym one)
          ∙ ap (find p) (flat_map_range_more f n)
          ∙ find-append p (flat_map f (range_with_len 0 n)) (f n)
          ∙ ap (λ o. option_or o (find p (f n))) (before (omega (arith, low, ne)))

  pub some_found : (n k : ℕ) (o : Option X) → k < n → find p (flat_map f (range_with_len 0 k)) ≡ None → o ≡ find p (f k) → is_some o ≡ true
      → o ≡ find p (flat_map f (range_with_len 0 n))
  some_found n k None low none here is = absurd (false≢true is)
  some_found n k (Some x) low none here is = sym (list_found n k x low none (sym here))

module _ {X : Type 0} (p : X → Bool) (f : ℕ → X) where
  single : (n : ℕ) → find p (flat_map (λ k. f k ∷ []) (range_with_len 0 n)) ≡ find p (map f (range_with_len 0 n))
  single n = ap (find p) (flat_map_single f (range_with_len 0 n))

  -- one element more
  pub one_more : (n : ℕ) → find p (map f (range_with_len 0 n)) ≡ None → p (f n) ≡ false → find p (map f (range_with_len 0 (n + 1))) ≡ None
  one_more n none fails =
      sym (single (n + 1))
      ∙ list_more p (λ k. f k ∷ []) n None (single n ∙ none) (ap (λ b. cond b (Some (f n)) None) fails)

  pub one_found : (n k : ℕ) → k < n → find p (map f (range_with_len 0 k)) ≡ None → p (f k) ≡ true
      → find p (map f (range_with_len 0 n)) ≡ Some (f k)
  one_found n k low none passes =
      sym (single n)
      ∙ list_found p (λ k. f k ∷ []) n k (f k) low (single k ∙ none) (ap (λ b. cond b (Some (f k)) None) passes)

-- ---- the lists of those numbers that are wanted

module _ {X : Type 0} (p : X → Bool) (f : ℕ → List X) (w : ℕ
    → Bool) (gs : List ℕ) (k g : ℕ) (low : k < length gs) (here : g ≡ get_or gs k 0) where
  -- what is found from number k on
  abbrev pub from : ℕ → Option X
  from n = find p (flat_map f (filter w (drop n gs)))

  choice : (b : Bool) → w g ≡ b → from k ≡ find p (flat_map f (cond b (g ∷ filter w (drop (k + 1) gs)) (filter w (drop (k + 1) gs))))
  choice b is =
      ap (λ hs. find p (flat_map f (filter w hs))) (drop_more gs k 0 low ∙ ap (λ h. h ∷ drop (k + 1) gs) (sym here))
      ∙ ap (λ z. find p (flat_map f (cond z (g ∷ filter w (drop (k + 1) gs)) (filter w (drop (k + 1) gs))))) is

  pub first_skipped : w g ≡ false → from (k + 1) ≡ from k
  first_skipped fails = sym (choice false fails)

  first_wanted : w g ≡ true → (o : Option X) → find p (f g) ≡ o → from k ≡ option_or o (from (k + 1))
  first_wanted is o found =
      choice true is ∙ find-append p (f g) (flat_map f (filter w (drop (k + 1) gs))) ∙ ap (λ z. option_or z (from (k + 1))) found

  module _ {Y : Type 0} (h : X → Y) (is : w g ≡ true) (o : Option Y) (found : o ≡ option_map h (find p (f g))) where
    -- what is found in its list is the first
    pub wanted_found : is_some o ≡ true → o ≡ option_map h (from k)
    wanted_found some = by (find p (f g)) refl
      where
        by : (z : Option X) → find p (f g) ≡ z → o ≡ option_map h (from k)
        by None e = absurd (false≢true (sym (ap is_some (found ∙ ap (option_map h) e)) ∙ some))
        by (Some x) e = found ∙ ap (option_map h) (e ∙ sym (first_wanted is (Some x) e))

    -- else it lies behind
    pub wanted_behind : is_some o ≡ false → from (k + 1) ≡ from k
    wanted_behind none = by (find p (f g)) refl
      where
        by : (z : Option X) → find p (f g) ≡ z → from (k + 1) ≡ from k
        by None e = sym (first_wanted is None e)
        by (Some x) e = absurd (true≢false (sym (ap is_some (found ∙ ap (option_map h) e)) ∙ none))
