-- Lists: ranges, one number longer; what is in a list; pairs of elements.
use Rattle.std.proofs.Common.{ℕ, zero, suc, ◌+◌, arith, ◌≡◌, Bool, true, false, cond, List, [], ◌∷◌, ◌++◌, filter, map, refl, sym}
use Rattle.std.proofs.Common.{ap, ◌∙◌, append_assoc, inl, inr, subst}
use Rattle.std.specs.List.{flat_map, range_with_len}
use Rattle.std.proofs.lemmas.List.{append-nil}
use Rattle.std.proofs.lemmas.List.Elements.{filter-append, Contains-append_left, Contains-append_right}
use Rattle.std.proofs.lemmas.Grind.{flat_map-append}
use Rattle.std.proofs.lemmas.List.FromFn.{map-range_with_len_more}
use Rattle.std.specs.Prelude.{All, AllPairs, Contains}
use Rattle.std.proofs.Math.ListN.{get_or-map, length-map}
use Rattle.domains.proofs.PairLists.{Contains-cases}

range_more_from : (a n : ℕ) → range_with_len a (suc n) ≡ range_with_len a n ++ (a + n) ∷ []
range_more_from a zero = ap (λ x. x ∷ []) (let e : a ≡ a + 0 = omega arith in e)
range_more_from a (suc n) =
    let e : (a + 1) + n ≡ a + suc n = omega arith in
    ap (λ xs. a ∷ xs) (range_more_from (a + 1) n ∙ ap (λ x. range_with_len (a + 1) n ++ x ∷ []) e)

pub range_more : (n : ℕ) → range_with_len 0 (n + 1) ≡ range_with_len 0 n ++ n ∷ []
range_more n =
    let e : n + 1 ≡ suc n = omega arith in let z : 0 + n ≡ n = omega arith in
    ap (range_with_len 0) e ∙ range_more_from 0 n ∙ ap (λ x. range_with_len 0 n ++ x ∷ []) z

pub flat_map_range_more : {A : Type 0} → (f : ℕ → List A) (n : ℕ)
    → flat_map f (range_with_len 0 (n + 1)) ≡ flat_map f (range_with_len 0 n) ++ f n
flat_map_range_more f n =
    ap (flat_map f) (range_more n) ∙ flat_map-append f (range_with_len 0 n) (n ∷ [])
    ∙ ap (λ xs. flat_map f (range_with_len 0 n) ++ xs) (append-nil (f n))

pub filter_range_more : (p : ℕ → Bool) (n : ℕ)
    → filter p (range_with_len 0 (n + 1)) ≡ filter p (range_with_len 0 n) ++ cond (p n) (n ∷ []) []
filter_range_more p n = ap (filter p) (range_more n) ∙ filter-append p (range_with_len 0 n) (n ∷ [])

-- the next number passes, or it does not
pub passes_more : (p : ℕ → Bool) (n : ℕ) → p n ≡ true → filter p (range_with_len 0 (n + 1)) ≡ filter p (range_with_len 0 n) ++ n ∷ []
passes_more p n e = filter_range_more p n ∙ ap (λ b. filter p (range_with_len 0 n) ++ cond b (n ∷ []) []) e

pub fails_more : (p : ℕ → Bool) (n : ℕ) → p n ≡ false → filter p (range_with_len 0 (n + 1)) ≡ filter p (range_with_len 0 n)
fails_more p n e =
    filter_range_more p n ∙ ap (λ b. filter p (range_with_len 0 n) ++ cond b (n ∷ []) []) e ∙ append-nil (filter p (range_with_len 0 n))

-- and what stood before it
pub passes_behind : (p : ℕ → Bool) (before order after : List ℕ) (n : ℕ) → order ≡ before ++ filter p (range_with_len 0 n) → p n ≡ true
    → after ≡ order ++ n ∷ [] → after ≡ before ++ filter p (range_with_len 0 (n + 1))
passes_behind p before order after n was e is =
    is ∙ ap (λ xs. xs ++ n ∷ []) was ∙ append_assoc before (filter p (range_with_len 0 n)) (n ∷ [])
    ∙ ap (λ xs. before ++ xs) (sym (passes_more p n e))

pub fails_behind : (p : ℕ → Bool) (before order after : List ℕ) (n : ℕ) → order ≡ before ++ filter p (range_with_len 0 n) → p n ≡ false
    → after ≡ order → after ≡ before ++ filter p (range_with_len 0 (n + 1))
fails_behind p before order after n was e is = is ∙ was ∙ ap (λ xs. before ++ xs) (sym (fails_more p n e))

pub flat_map-same : {X A : Type 0} → (f g : X → List A) (xs : List X) → ((x : X) → f x ≡ g x) → flat_map f xs ≡ flat_map g xs
flat_map-same f g [] same = refl
flat_map-same f g (x ∷ xs) same = ap (λ ys. ys ++ flat_map f xs) (same x) ∙ ap (λ ys. g x ++ ys) (flat_map-same f g xs same)

pub map_range_more : {A : Type 0} (f : ℕ → A) (n : ℕ) → map f (range_with_len 0 (n + 1)) ≡ map f (range_with_len 0 n) ++ f n ∷ []
map_range_more f n = map-range_with_len_more f 0 n n (let e : 0 + n ≡ n = omega arith in e)

-- ---- elements

pub Contains-map : {X Y : Type 0} → (f : X → Y) (xs : List X) (x : X) → Contains xs x → Contains (map f xs) (f x)
Contains-map f xs x h = (h.0, (let same = length-map xs f in let low = h.1 in omega arith), get_or-map f xs h.0 x ∙ ap f h.2)

pub Contains-flat_map : {X Y : Type 0} → (f : X → List Y) (xs : List X) (x : X) (y : Y) → Contains xs x → Contains (f x) y
    → Contains (flat_map f xs) y
Contains-flat_map f [] x y h k = absurd (omega (arith, h.1))
Contains-flat_map f (z ∷ zs) x y h k = elim (Contains-cases z zs x h) [
  | inl e ↦ Contains-append_left (f z) (flat_map f zs) y (subst (λ w. Contains (f w) y) (sym e) k)
  | inr n ↦ Contains-append_right (f z) (flat_map f zs) y (Contains-flat_map f zs x y n k)
]

-- ---- pairs

pub AllPairs-head : {A : Type 0} → (R : A → A → Type 0) (x : A) (xs : List A) → AllPairs R (x ∷ xs) → All (R x) xs
AllPairs-head R x xs h = λ k d low. h 0 (suc k) d (omega arith) (omega arith)

pub AllPairs-tail : {A : Type 0} → (R : A → A → Type 0) (x : A) (xs : List A) → AllPairs R (x ∷ xs) → AllPairs R xs
AllPairs-tail R x xs h = λ i j d low high. h (suc i) (suc j) d (omega arith) (omega arith)
