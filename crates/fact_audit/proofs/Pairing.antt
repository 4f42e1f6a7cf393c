-- Lists whose elements at equal places belong together.
use Rattle.std.proofs.Common.{ℕ, zero, suc, ◌+◌, ◌++◌, ◌<◌, ◌≡◌, ◌⊎◌, inl, inr, List, [], ◌∷◌, Some, length, get_or, slice_get}
use Rattle.std.proofs.Common.{subst, sym, ◌∙◌, ap, refl, arith}
use Rattle.std.proofs.lemmas.List.{length_push}
use Rattle.std.proofs.lemmas.Option.{slice_get-get_or, same_Some, none-some}

-- ys has n elements, each of which belongs to what stands at its place in xs
abbrev pub IsBegun : {X Y : Type 0} → (X → Y → Type 0) → List X → List Y → ℕ → Type 0
IsBegun {X} {Y} P xs ys n =
    (length ys ≡ n) × ((k : ℕ) (x : X) (y : Y) → slice_get xs k ≡ Some x → slice_get ys k ≡ Some y → P x y)

-- an element of a list with one more is one of those before, or the last
place_of : {Y : Type 0} (ys : List Y) (y : Y) (i : ℕ) (x : Y) → slice_get (ys ++ y ∷ []) i ≡ Some x
    → (slice_get ys i ≡ Some x) ⊎ ((i ≡ length ys) × (y ≡ x))
place_of [] y zero x e = inr (refl, same_Some y x e)
place_of [] y (suc i) x e = absurd (none-some x e)
place_of (z ∷ zs) y zero x e = inl e
place_of (z ∷ zs) y (suc i) x e = later (place_of zs y i x e)
  where
    later : (slice_get zs i ≡ Some x) ⊎ ((i ≡ length zs) × (y ≡ x)) → (slice_get zs i ≡ Some x) ⊎ ((suc i ≡ suc (length zs)) × (y ≡ x))
    later (inl at) = inl at
    later (inr last) = inr (ap suc last.0, last.1)

pub begun_more : {X Y : Type 0} (P : X → Y → Type 0) (xs : List X) (ys : List Y) (n : ℕ) (x : X) (y : Y) → slice_get xs n ≡ Some x → P x y
    → IsBegun P xs ys n → IsBegun P xs (ys ++ y ∷ []) (n + 1)
begun_more {X} {Y} P xs ys n x y there here begun = (
  length_push ys y ∙ ap (λ m. m + 1) begun.0,
  (λ k a b at stands. by_place k a b at (place_of ys y k b stands)),
)
  where
    by_place : (k : ℕ) (a : X) (b : Y) → slice_get xs k ≡ Some a → (slice_get ys k ≡ Some b) ⊎ ((k ≡ length ys) × (y ≡ b)) → P a b
    by_place k a b at (inl before) = begun.1 k a b at before
    by_place k a b at (inr last) =
        let same = sym there ∙ ap (slice_get xs) (sym (last.0 ∙ begun.0)) ∙ at in
        subst (P a) last.1 (subst (λ (c : X). P c y) (same_Some x a same) here)

-- what is begun reaches as far as it is long
pub partner : {X Y : Type 0} (P : X → Y → Type 0) (xs : List X) (ys : List Y) (n k : ℕ) (x : X) → IsBegun P xs ys n → k < n
    → slice_get xs k ≡ Some x → (y : Y) × (slice_get ys k ≡ Some y) × P x y
partner P xs [] n k x begun h at = let none = begun.0 in absurd (omega (arith, none, h))
partner P xs (z ∷ zs) n k x begun h at =
    let all = begun.0 in
    let stands = slice_get-get_or (z ∷ zs) k z (omega (arith, all, h)) in
    (get_or (z ∷ zs) k z, stands, begun.1 k x (get_or (z ∷ zs) k z) at stands)
