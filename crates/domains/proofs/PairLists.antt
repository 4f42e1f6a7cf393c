-- Lists of pairs, row by row.
use Rattle.std.proofs.Common.{ℕ, zero, suc, ◌≡◌, ◌+◌, ◌-◌, ◌*◌, ◌<◌, ◌≤◌, ◌⊎◌, inl, inr, refl, sym, ap, ◌∙◌, subst, arith, Bool}
use Rattle.std.proofs.Common.{true, false, cond, ◌&&◌, IsTrue, ◌↔◌, List}
use Rattle.std.proofs.Common.{[], ◌∷◌, ◌++◌, map, length, length-append, append_assoc, filter, max}
use Rattle.std.specs.Prelude.{All, AllPairs, Contains}
use Rattle.std.specs.List.{range_with_len}
use Rattle.std.proofs.Math.Nat.{suc-mul}
use Rattle.std.proofs.lemmas.List.FromFn.{length-range_with_len, get_or-range_with_len, map-range_with_len_more}
use Rattle.std.proofs.lemmas.List.Elements.{All-nil, All-cons, All-append, All-map, All-weaker, All-contains, All-filter}
use Rattle.std.proofs.lemmas.List.Elements.{All-contains_itself, filter_passes, filter-append, Contains-append_left}
use Rattle.std.proofs.lemmas.List.Elements.{Contains-append_right, Contains-append_cases, Contains-push_cases}
use Rattle.std.proofs.lemmas.List.Kept.{AllPairs-cons}
use Rattle.std.proofs.lemmas.Bool.{cases_lt}
use Rattle.std.proofs.lemmas.List.{append-nil}
use Rattle.domains.specs.Pairs.{pairs, IsBeforeBy}

-- one row
abbrev pub row_of : {A B : Type 0} → A → List B → List (A × B)
row_of r cs = map (λ c. (r, c)) cs

length-row_of : {A B : Type 0} → (r : A) (cs : List B) → length (row_of r cs) ≡ length cs
length-row_of r [] = refl
length-row_of r (c ∷ cs) = ap suc (length-row_of r cs)

pub length-pairs : {A B : Type 0} → (rs : List A) (cs : List B) → length (pairs rs cs) ≡ length rs * length cs
length-pairs [] cs = omega arith
length-pairs (r ∷ rs) cs =
    omega (arith, length-append (row_of r cs) (pairs rs cs), length-row_of r cs, length-pairs rs cs, suc-mul (length rs) (length cs))

-- ---- what is in a list

pub Contains-here : {A : Type 0} → (x : A) (xs : List A) → Contains (x ∷ xs) x
Contains-here x xs = (0, omega arith, refl)

pub Contains-cases : {A : Type 0} → (y : A) (xs : List A) (x : A) → Contains (y ∷ xs) x → (y ≡ x) ⊎ Contains xs x
Contains-cases y xs x h =
    elim (Contains-append_cases (y ∷ []) xs x h)
    [ inl k ↦ elim (Contains-push_cases [] y x k) [ inl n ↦ absurd (omega (arith, n.1)) | inr e ↦ inl e ] | inr k ↦ inr k ]

kept_in : {A : Type 0} → (p : A → Bool) (y : A) (ys : List A) (x : A) → IsTrue (p x) → (y ≡ x) ⊎ Contains ys x
    → (Contains ys x → Contains (filter p ys) x) → (b : Bool) → p y ≡ b → Contains (cond b (y ∷ filter p ys) (filter p ys)) x
kept_in p y ys x t (inl s) rest true e = subst (λ z. Contains (y ∷ filter p ys) z) s (Contains-here y (filter p ys))
kept_in p y ys x t (inl s) rest false e = let clash : ◌≡◌ {A = Bool} true false = sym t ∙ sym (ap p s) ∙ e in cc
kept_in p y ys x t (inr k) rest true e = Contains-append_right (y ∷ []) (filter p ys) x (rest k)
kept_in p y ys x t (inr k) rest false e = rest k

pub Contains-filter : {A : Type 0} → (p : A → Bool) (xs : List A) (x : A) → Contains xs x → IsTrue (p x) → Contains (filter p xs) x
Contains-filter p [] x h t = h
Contains-filter p (y ∷ ys) x h t = kept_in p y ys x t (Contains-cases y ys x h) (λ k. Contains-filter p ys x k t) (p y) refl

pub Contains-from_filter : {A : Type 0} → (p : A → Bool) (xs : List A) (x : A) → Contains (filter p xs) x → Contains xs x × IsTrue (p x)
Contains-from_filter p xs x h = (
  All-contains (Contains xs) (filter p xs) x (All-filter p (Contains xs) xs (All-contains_itself xs)) h,
  All-contains (λ y. p y ≡ true) (filter p xs) x (filter_passes p xs) h,
)

Contains-row_of : {A B : Type 0} → (r : A) (cs : List B) (c : B) → Contains cs c → Contains (row_of r cs) (r, c)
Contains-row_of r [] c h = absurd (omega (arith, h.1))
Contains-row_of r (x ∷ xs) c h = elim (Contains-cases x xs c h) [
  | inl e ↦ subst (λ z. Contains (row_of r (x ∷ xs)) (r, z)) e (Contains-here (r, x) (row_of r xs))
  | inr k ↦ Contains-append_right ((r, x) ∷ []) (row_of r xs) (r, c) (Contains-row_of r xs c k)
]

pub Contains-pairs : {A B : Type 0} → (rs : List A) (cs : List B) (r : A) (c : B) → Contains rs r → Contains cs c
    → Contains (pairs rs cs) (r, c)
Contains-pairs [] cs r c h k = absurd (omega (arith, h.1))
Contains-pairs (x ∷ xs) cs r c h k = elim (Contains-cases x xs r h) [
  | inl e ↦ subst (λ z. Contains (pairs (x ∷ xs) cs) (z, c)) e
      (Contains-append_left (row_of x cs) (pairs xs cs) (x, c) (Contains-row_of x cs c k))
  | inr n ↦ Contains-append_right (row_of x cs) (pairs xs cs) (r, c) (Contains-pairs xs cs r c n k)
]

All-row_of : {A B : Type 0} → (P : A × B → Type 0) (r : A) (cs : List B) → All (λ c. P (r, c)) cs → All P (row_of r cs)
All-row_of P r cs h = All-map P (λ c. (r, c)) cs h

pub All-pairs : {A B : Type 0} → (rs : List A) (cs : List B) → All (λ t. Contains rs t.0 × Contains cs t.1) (pairs rs cs)
All-pairs [] cs = All-nil (λ t. Contains [] t.0 × Contains cs t.1)
All-pairs (x ∷ xs) cs =
    All-append (λ t. Contains (x ∷ xs) t.0 × Contains cs t.1) (row_of x cs) (pairs xs cs)
    (All-row_of (λ t. Contains (x ∷ xs) t.0 × Contains cs t.1) x cs
    (All-weaker (Contains cs) (λ c. Contains (x ∷ xs) x × Contains cs c) (λ c h. (Contains-here x xs, h)) cs (All-contains_itself cs)))
    (All-weaker (λ t. Contains xs t.0 × Contains cs t.1) (λ t. Contains (x ∷ xs) t.0 × Contains cs t.1)
    (λ t h. (Contains-append_right (x ∷ []) xs t.0 h.0, h.1)) (pairs xs cs) (All-pairs xs cs))

pub Contains-from_pairs : {A B : Type 0} → (rs : List A) (cs : List B) (r : A) (c : B) → Contains (pairs rs cs) (r, c)
    → Contains rs r × Contains cs c
Contains-from_pairs rs cs r c h = All-contains (λ t. Contains rs t.0 × Contains cs t.1) (pairs rs cs) (r, c) (All-pairs rs cs) h

-- ---- numbers in a row

pub Contains-range : (a n k : ℕ) → a ≤ k → k < a + n → Contains (range_with_len a n) k
Contains-range a n k low high =
    let below : k - a < n = omega arith in
    (k - a, omega (arith, length-range_with_len a n), get_or-range_with_len a n (k - a) _ below ∙ omega arith)

All-range : (a n : ℕ) → All (λ k. (a ≤ k) × (k < a + n)) (range_with_len a n)
All-range a zero = All-nil (λ k. (a ≤ k) × (k < a + 0))
All-range a (suc n) =
    All-cons (λ k. (a ≤ k) × (k < a + suc n)) a (range_with_len (a + 1) n) (omega arith, omega arith)
    (All-weaker (λ k. (a + 1 ≤ k) × (k < a + 1 + n)) (λ k. (a ≤ k) × (k < a + suc n))
    (λ k h. let low = h.0 in let high = h.1 in (omega arith, omega arith)) (range_with_len (a + 1) n) (All-range (a + 1) n))

pub Contains-from_range : (a n k : ℕ) → Contains (range_with_len a n) k → (a ≤ k) × (k < a + n)
Contains-from_range a n k h = All-contains (λ j. (a ≤ j) × (j < a + n)) (range_with_len a n) k (All-range a n) h

-- ---- a filter of pairs, and of numbers in a row

filter-row_of : {A B : Type 0} → (p : A → Bool) (q : B → Bool) (r : A) (cs : List B) → (b : Bool) → p r ≡ b
    → filter (λ t. p t.0 && q t.1) (row_of r cs) ≡ cond b (row_of r (filter q cs)) []
filter-row_of p q r [] true e = refl
filter-row_of p q r [] false e = refl
filter-row_of p q r (c ∷ cs) true e =
    let rest = filter-row_of p q r cs true e in
    ap (λ (b : Bool). cond (b && q c) ((r, c) ∷ filter (λ t. p t.0 && q t.1) (row_of r cs)) (filter (λ t. p t.0 && q t.1) (row_of r cs))) e
    ∙ ap (λ ts. cond (q c) ((r, c) ∷ ts) ts) rest
    ∙ one (q c)
  where
    one : (b : Bool) → cond b ((r, c) ∷ row_of r (filter q cs)) (row_of r (filter q cs)) ≡ row_of r (cond b (c ∷ filter q cs) (filter q cs))
    one true = refl
    one false = refl
filter-row_of p q r (c ∷ cs) false e =
    ap (λ (b : Bool). cond (b && q c) ((r, c) ∷ filter (λ t. p t.0 && q t.1) (row_of r cs)) (filter (λ t. p t.0 && q t.1) (row_of r cs))) e
    ∙ filter-row_of p q r cs false e

pub filter-pairs : {A B : Type 0} → (p : A → Bool) (q : B → Bool) (rs : List A) (cs : List B)
    → filter (λ t. p t.0 && q t.1) (pairs rs cs) ≡ pairs (filter p rs) (filter q cs)
filter-pairs p q [] cs = refl
filter-pairs p q (r ∷ rs) cs =
    filter-append (λ t. p t.0 && q t.1) (row_of r cs) (pairs rs cs)
    ∙ (λ i. filter-row_of p q r cs (p r) refl i ++ filter-pairs p q rs cs i)
    ∙ one (p r)
  where
    one : (b : Bool)
        → cond b (row_of r (filter q cs)) [] ++ pairs (filter p rs) (filter q cs)
        ≡ pairs (cond b (r ∷ filter p rs) (filter p rs)) (filter q cs)
    one true = refl
    one false = refl

-- the numbers of a row that pass lie from low up to below high
pub filter-range : (p : ℕ → Bool) (low high a n : ℕ) → ((k : ℕ) → a ≤ k → k < a + n → IsTrue (p k) ↔ ((low ≤ k) × (k < high)))
    → high ≤ a + n → filter p (range_with_len a n) ≡ range_with_len (max a low) (high - max a low)
filter-range p low high a zero f h = let none : 0 ≡ high - max a low = omega arith in ap (range_with_len (max a low)) none
filter-range p low high a (suc n) f h =
    let here = f a (omega arith) (omega arith) in
    by (p a) refl (filter-range p low high (a + 1) n (λ k i j. f k (omega arith) (omega arith)) (omega arith)) here
  where
    by : (b : Bool) → p a ≡ b → filter p (range_with_len (a + 1) n) ≡ range_with_len (max (a + 1) low) (high - max (a + 1) low)
        → IsTrue (p a) ↔ ((low ≤ a) × (a < high))
        → cond b (a ∷ filter p (range_with_len (a + 1) n)) (filter p (range_with_len (a + 1) n))
        ≡ range_with_len (max a low) (high - max a low)
    by true e rest here =
        let at = here.0 e in
        let starts = at.0 in let ends = at.1 in
        let count : high - max a low ≡ suc (high - max (a + 1) low) = omega arith in
        let from : max a low ≡ a = omega arith in
        let next : max (a + 1) low ≡ a + 1 = omega arith in
        ap (λ ks. a ∷ ks) rest ∙ (λ i. a ∷ range_with_len (next i) (high - max (a + 1) low))
        ∙ (λ i. range_with_len (sym from i) (suc (high - max (a + 1) low))) ∙ ap (range_with_len (max a low)) (sym count)
    by false e rest here = elim (cases_lt a low) [
      | inl l ↦ (let same : max (a + 1) low ≡ max a low = omega arith in rest ∙ (λ i. range_with_len (same i) (high - same i)))
      | inr l ↦ (let past : high ≤ a =
          elim (cases_lt a high) [ inl m ↦ (let clash : ◌≡◌ {A = Bool} true false = sym (here.1 (l, m)) ∙ e in cc) | inr m ↦ m ] in
          let none : high - max (a + 1) low ≡ 0 = omega arith in
          let none_here : high - max a low ≡ 0 = omega arith in
          rest ∙ ap (range_with_len (max (a + 1) low)) none ∙ sym (ap (range_with_len (max a low)) none_here))
    ]

-- ---- row by row

AllPairs-tail : {A : Type 0} → (R : A → A → Type 0) (x : A) (xs : List A) → AllPairs R (x ∷ xs) → AllPairs R xs
AllPairs-tail R x xs h = λ i j d p q. h (suc i) (suc j) d (omega arith) (omega arith)

AllPairs-head : {A : Type 0} → (R : A → A → Type 0) (x : A) (xs : List A) → AllPairs R (x ∷ xs) → All (R x) xs
AllPairs-head R x xs h = λ k d p. h 0 (suc k) d (omega arith) (omega arith)

-- a row stands before rows that begin with a later number
row_first : {A B : Type 0} → (R : A → A → Type 0) (S : B → B → Type 0) (r : A) (cs : List B) (rest : List (A × B)) → AllPairs S cs
    → All (λ t. R r t.0) rest → AllPairs (IsBeforeBy R S) rest → AllPairs (IsBeforeBy R S) (row_of r cs ++ rest)
row_first R S r [] rest c h k = k
row_first R S r (x ∷ xs) rest c h k =
    AllPairs-cons (IsBeforeBy R S) (r, x) (row_of r xs ++ rest)
    (All-append (IsBeforeBy R S (r, x)) (row_of r xs) rest
    (All-row_of (IsBeforeBy R S (r, x)) r xs
    (All-weaker (S x) (λ y. IsBeforeBy R S (r, x) (r, y)) (λ y s. inr (refl, s)) xs (AllPairs-head S x xs c)))
    (All-weaker (λ t. R r t.0) (IsBeforeBy R S (r, x)) (λ t s. inl s) rest h))
    (row_first R S r xs rest (AllPairs-tail S x xs c) h k)

pub AllPairs-pairs : {A B : Type 0} → (R : A → A → Type 0) (S : B → B → Type 0) (rs : List A) (cs : List B) → AllPairs R rs → AllPairs S cs
    → AllPairs (IsBeforeBy R S) (pairs rs cs)
AllPairs-pairs R S [] cs h k = λ i j d p q. absurd (omega (arith, q))
AllPairs-pairs R S (x ∷ xs) cs h k =
    row_first R S x cs (pairs xs cs) k
    (All-weaker (λ t. Contains xs t.0 × Contains cs t.1) (λ t. R x t.0) (λ t m. All-contains (R x) xs t.0 (AllPairs-head R x xs h) m.0)
    (pairs xs cs) (All-pairs xs cs))
    (AllPairs-pairs R S xs cs (AllPairs-tail R x xs h) k)

pub AllPairs-range : (a n : ℕ) → AllPairs ◌<◌ (range_with_len a n)
AllPairs-range a zero = λ i j d p q. absurd (omega (arith, q))
AllPairs-range a (suc n) =
    AllPairs-cons ◌<◌ a (range_with_len (a + 1) n)
    (All-weaker (λ k. (a + 1 ≤ k) × (k < a + 1 + n)) (λ k. a < k) (λ k h. let low = h.0 in omega arith) (range_with_len (a + 1) n)
    (All-range (a + 1) n))
    (AllPairs-range (a + 1) n)

-- one more row
pub pairs_more : {B : Type 0} → (a n j : ℕ) (cs : List B) → a + n ≡ j
    → pairs (range_with_len a (n + 1)) cs ≡ pairs (range_with_len a n) cs ++ row_of j cs
pairs_more a zero j cs e = append-nil (row_of a cs) ∙ (let same : a ≡ j = omega arith in ap (λ i. row_of i cs) same)
pairs_more a (suc n) j cs e =
    let more : suc n + 1 ≡ suc (n + 1) = omega arith in
    ap (λ m. pairs (range_with_len a m) cs) more
    ∙ ap (λ ts. row_of a cs ++ ts) (pairs_more (a + 1) n j cs (omega arith))
    ∙ sym (append_assoc (row_of a cs) (pairs (range_with_len (a + 1) n) cs) (row_of j cs))

above_start : (from j : ℕ) → from ≤ j → from + (j - from) ≡ j
above_start from j h = omega arith

one_more_place : (from j : ℕ) → from ≤ j → (j - from) + 1 ≡ j + 1 - from
one_more_place from j h = omega arith

-- one more place in a row
pub row_more : (before now : List (ℕ × ℕ)) (i from j : ℕ) → from ≤ j → now ≡ before ++ row_of i (range_with_len from (j - from))
    → now ++ (i, j) ∷ [] ≡ before ++ row_of i (range_with_len from (j + 1 - from))
row_more before now i from j h e =
    ap (λ ts. ts ++ (i, j) ∷ []) e
    ∙ append_assoc before (row_of i (range_with_len from (j - from))) ((i, j) ∷ [])
    ∙ ap (λ ts. before ++ ts) (sym (map-range_with_len_more (λ k. (i, k)) from (j - from) j (above_start from j h)))
    ∙ ap (λ n. before ++ row_of i (range_with_len from n)) (one_more_place from j h)
