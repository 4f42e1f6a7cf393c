-- Lists that are made of lists or of other elements.
use Rattle.std.proofs.Common.{◌≡◌, inl, inr, arith, List, [], ◌∷◌, ◌++◌, map}
use Rattle.std.specs.Prelude.{All, AllPairs, Contains}
use Rattle.std.specs.List.{flat_map}
use Rattle.std.proofs.lemmas.List.Elements.{All-append, All-map, All-weaker, All-contains, All-contains_itself}
use Rattle.std.proofs.lemmas.List.Elements.{Contains-append_right, Contains-append_cases}
use Rattle.std.proofs.lemmas.List.Kept.{AllPairs-cons}
use Rattle.domains.proofs.PairLists.{Contains-here, Contains-cases}
use Rattle.tile_boxes.proofs.Lists.{AllPairs-head, AllPairs-tail}

-- ---- what is in a list

pub Contains-from_flat_map : {X A : Type 0} → (f : X → List A) (xs : List X) (y : A) → Contains (flat_map f xs) y
    → (x : X) × Contains xs x × Contains (f x) y
Contains-from_flat_map f [] y h = absurd (omega (arith, h.1))
Contains-from_flat_map f (z ∷ zs) y h = elim (Contains-append_cases (f z) (flat_map f zs) y h) [
  | inl k ↦ (z, Contains-here z zs, k)
  | inr k ↦ (let rest = Contains-from_flat_map f zs y k in (rest.0, Contains-append_right (z ∷ []) zs rest.0 rest.1, rest.2))
]

pub Contains-from_map : {X Y : Type 0} → (f : X → Y) (xs : List X) (y : Y) → Contains (map f xs) y → (x : X) × Contains xs x × (f x ≡ y)
Contains-from_map f [] y h = absurd (omega (arith, h.1))
Contains-from_map f (z ∷ zs) y h = elim (Contains-cases (f z) (map f zs) y h) [
  | inl e ↦ (z, Contains-here z zs, e)
  | inr k ↦ (let rest = Contains-from_map f zs y k in (rest.0, Contains-append_right (z ∷ []) zs rest.0 rest.1, rest.2))
]

-- what holds of each that is in a list holds of each element
pub All-from_contains : {X : Type 0} → (P : X → Type 0) (xs : List X) → ((x : X) → Contains xs x → P x) → All P xs
All-from_contains P xs h = All-weaker (Contains xs) P h xs (All-contains_itself xs)

-- ---- in order

pub AllPairs-append : {A : Type 0} → (R : A → A → Type 0) (xs ys : List A) → AllPairs R xs → AllPairs R ys
    → ((x y : A) → Contains xs x → Contains ys y → R x y) → AllPairs R (xs ++ ys)
AllPairs-append R [] ys h k before = k
AllPairs-append R (x ∷ xs) ys h k before =
    AllPairs-cons R x (xs ++ ys)
    (All-append (R x) xs ys (AllPairs-head R x xs h) (All-from_contains (R x) ys (λ y m. before x y (Contains-here x xs) m)))
    (AllPairs-append R xs ys (AllPairs-tail R x xs h) k (λ z y n m. before z y (Contains-append_right (x ∷ []) xs z n) m))

pub AllPairs-flat_map : {X A : Type 0} → (S : X → X → Type 0) (R : A → A → Type 0) (f : X → List A) (xs : List X) → AllPairs S xs
    → ((x : X) → AllPairs R (f x))
    → ((x y : X) → S x y → (a b : A) → Contains (f x) a → Contains (f y) b → R a b) → AllPairs R (flat_map f xs)
AllPairs-flat_map S R f [] h each before = λ i j d p q. absurd (omega (arith, q))
AllPairs-flat_map S R f (x ∷ xs) h each before =
    AllPairs-append R (f x) (flat_map f xs) (each x) (AllPairs-flat_map S R f xs (AllPairs-tail S x xs h) each before)
    (λ a b here there.
    let later = Contains-from_flat_map f xs b there in
    before x later.0 (All-contains (S x) xs later.0 (AllPairs-head S x xs h) later.1) a b here later.2)

pub AllPairs-map : {X A : Type 0} → (S : X → X → Type 0) (R : A → A → Type 0) (f : X → A) (xs : List X) → AllPairs S xs
    → ((x y : X) → S x y → R (f x) (f y)) → AllPairs R (map f xs)
AllPairs-map S R f [] h before = λ i j d p q. absurd (omega (arith, q))
AllPairs-map S R f (x ∷ xs) h before =
    AllPairs-cons R (f x) (map f xs)
    (All-map (R (f x)) f xs (All-weaker (S x) (λ y. R (f x) (f y)) (λ y s. before x y s) xs (AllPairs-head S x xs h)))
    (AllPairs-map S R f xs (AllPairs-tail S x xs h) before)
