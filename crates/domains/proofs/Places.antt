-- Places of lists: what stands where, after a change, before a loop's place and at the end.
use Rattle.std.proofs.Common.{ℕ, zero, suc, ◌+◌, ◌++◌, ◌<◌, ◌≤◌, ◌≡◌, ◌≢◌, ◌⊎◌, inl, inr, List, [], ◌∷◌, All, Option, Some}
use Rattle.std.proofs.Common.{Result, Ok, Err, IfOk, length, drop, set, get_or, slice_get, subst, sym, ◌∙◌, ap, refl, arith}
use Rattle.std.proofs.lemmas.Bool.{cases_lt}
use Rattle.std.proofs.lemmas.List.{drop_more}
use Rattle.std.proofs.lemmas.Option.{slice_get_read, slice_get_within, get_or_from_slice_get, same_Some}

-- what a loop over a list has before it
pub here_is : {X : Type 0} (xs ys : List X) (i : ℕ) (x : X) → xs ≡ ys → i < length xs → x ≡ get_or xs i x → slice_get ys i ≡ Some x
here_is xs ys i x same h is = ap (λ zs. slice_get zs i) (sym same) ∙ slice_get_read xs (length xs) i x refl h is

pub next_of : {X : Type 0} (xs : List X) (i : ℕ) (x : X) → i < length xs → x ≡ get_or xs i x → drop i xs ≡ x ∷ drop (i + 1) xs
next_of xs i x h e = drop_more xs i x h ∙ ap (λ y. y ∷ drop (i + 1) xs) (sym e)

-- one more place
pub all_more : {X : Type 0} (P : ℕ → X → Type 0) (xs : List X) (i : ℕ) (x : X) → slice_get xs i ≡ Some x → P i x
    → ((k : ℕ) (y : X) → k < i → slice_get xs k ≡ Some y → P k y) → (k : ℕ) (y : X) → k < i + 1 → slice_get xs k ≡ Some y → P k y
all_more P xs i x there here before k y h at = by_place (cases_lt k i)
  where
    by_place : (k < i) ⊎ (i ≤ k) → P k y
    by_place (inl l) = before k y l at
    by_place (inr m) =
        let same : i ≡ k = omega arith in
        subst (λ n. P n y) same (subst (P i) (same_Some x y (sym there ∙ ap (slice_get xs) same ∙ at)) here)

pub slice_get-set_same : {X : Type 0} (xs : List X) (i : ℕ) (y : X) → i < length xs → slice_get (set xs i y) i ≡ Some y
slice_get-set_same [] i y h = absurd (omega arith)
slice_get-set_same (x ∷ xs) zero y h = refl
slice_get-set_same (x ∷ xs) (suc i) y h = slice_get-set_same xs i y (omega arith)

pub slice_get-set_other : {X : Type 0} (xs : List X) (i j : ℕ) (y : X) → j ≢ i → slice_get (set xs i y) j ≡ slice_get xs j
slice_get-set_other [] i j y h = refl
slice_get-set_other (x ∷ xs) zero zero y h = absurd (h refl)
slice_get-set_other (x ∷ xs) zero (suc j) y h = refl
slice_get-set_other (x ∷ xs) (suc i) zero y h = refl
slice_get-set_other (x ∷ xs) (suc i) (suc j) y h = slice_get-set_other xs i j y (λ e. h (ap suc e))

pub slice_get-end : {X : Type 0} (xs : List X) (y : X) → slice_get (xs ++ y ∷ []) (length xs) ≡ Some y
slice_get-end [] y = refl
slice_get-end (x ∷ xs) y = slice_get-end xs y

-- what holds of all holds of each
pub all_at : {X : Type 0} (P : X → Type 0) (xs : List X) (k : ℕ) (x : X) → All P xs → slice_get xs k ≡ Some x → P x
all_at P xs k x each is = subst P (get_or_from_slice_get xs k x x is) (each k x (slice_get_within xs k x is))

-- what follows from what a clause says of an Ok
pub ok_then : {X Y : Type 0} {P Q : X → Type 0} (r : Result X Y) → IfOk r P → ((x : X) → P x → Q x) → IfOk r Q
ok_then (Ok x) p f = f x p
ok_then (Err e) p f = tt
