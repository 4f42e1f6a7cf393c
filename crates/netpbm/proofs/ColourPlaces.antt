-- Where the samples of a plane stand among samples in turn.
use Rattle.std.proofs.Common.{◌≡◌, ℕ, zero, suc, ◌+◌, ◌*◌, ◌<◌, ◌⊎◌, inl, inr, List, [], ◌∷◌, length, get_or, take, drop, refl, sym, ap, subst}
use Rattle.std.proofs.Common.{◌-◌, ◌∙◌, arith}
use Rattle.std.proofs.lemmas.Nat.{mul-add-lt}
use Rattle.std.proofs.lemmas.List.{take_rest, get_or-drop}
use Rattle.netpbm.specs.Colours.{pick, thirds, separated}
use Rattle.netpbm.specs.Raw.{pairs}
use Rattle.netpbm.proofs.ColourLaws.{length-thirds}
use Rattle.netpbm.proofs.Rasters.{length-pairs, get_or-pairs}

get_or-thirds : (colour n : ℕ) (xs : List ℕ) (k : ℕ) → colour < 3 → length xs ≡ 3 * n → k < n
    → get_or (thirds colour xs) k 0 ≡ get_or xs (k * 3 + colour) 0
get_or-thirds colour n [] k lt e below = absurd (omega arith)
get_or-thirds colour n (a ∷ []) k lt e below = absurd (omega arith)
get_or-thirds colour n (a ∷ b ∷ []) k lt e below = absurd (omega arith)
get_or-thirds colour zero (a ∷ b ∷ c ∷ xs) k lt e below = absurd (omega arith)
get_or-thirds colour (suc n) (a ∷ b ∷ c ∷ xs) zero lt e below =
    let here : colour ≡ zero * 3 + colour = omega arith in
    picked colour lt ∙ ap (λ n. get_or (a ∷ b ∷ c ∷ xs) n 0) here
  where
    picked : (colour : ℕ) → colour < 3 → pick colour a b c ≡ get_or (a ∷ b ∷ c ∷ xs) colour 0
    picked zero lt = refl
    picked (suc zero) lt = refl
    picked (suc (suc zero)) lt = refl
    picked (suc (suc (suc n))) lt = absurd (omega arith)
get_or-thirds colour (suc n) (a ∷ b ∷ c ∷ xs) (suc k) lt e below =
    let there : suc k * 3 + colour ≡ suc (suc (suc (k * 3 + colour))) = omega arith in
    rw there (get_or-thirds colour n xs k lt (omega arith) (omega arith))

-- a plane of samples in turn: how many it has, and where each stands
pub record IsApart (colours area plane : ℕ) (samples : List ℕ) : Type 0 where
  pub many : length (get_or (separated colours samples) plane []) ≡ area
  pub there : (k : ℕ) → k < area → get_or samples (k * colours + plane) 0 ≡ get_or (get_or (separated colours samples) plane []) k 0

pub apart : (colours area plane : ℕ) (samples : List ℕ) → (colours ≡ 1) ⊎ (colours ≡ 3) → plane < colours
    → length samples ≡ colours * area → IsApart colours area plane samples
apart colours area plane samples h lt size = elim h [
  | inl e ↦ subst (λ c. IsApart c area plane samples) (sym e) (grey plane (omega arith) (size ∙ ap (λ c. c * area) e ∙ omega arith))
  | inr e ↦ subst (λ c. IsApart c area plane samples) (sym e) (coloured plane (omega arith) (size ∙ ap (λ c. c * area) e))
]
  where
    grey : (plane : ℕ) → plane < 1 → length samples ≡ area → IsApart 1 area plane samples
    grey zero lt size = record { many = size; there = λ k below. ap (λ n. get_or samples n 0) (omega arith) }
    grey (suc n) lt size = absurd (omega arith)

    coloured : (plane : ℕ) → plane < 3 → length samples ≡ 3 * area → IsApart 3 area plane samples
    coloured zero lt size =
        record { many = length-thirds 0 area samples size; there = λ k below. sym (get_or-thirds 0 area samples k lt size below) }
    coloured (suc zero) lt size =
        record { many = length-thirds 1 area samples size; there = λ k below. sym (get_or-thirds 1 area samples k lt size below) }
    coloured (suc (suc zero)) lt size =
        record { many = length-thirds 2 area samples size; there = λ k below. sym (get_or-thirds 2 area samples k lt size below) }
    coloured (suc (suc (suc n))) lt size = absurd (omega arith)

-- ---- in bytes

pub bytes_are : (colours area plane : ℕ) (raster : List ℕ) → (colours ≡ 1) ⊎ (colours ≡ 3) → plane < colours
    → length raster ≡ colours * area
    → (area ≡ length (get_or (separated colours raster) plane []))
    × ((k : ℕ) → k < length (get_or (separated colours raster) plane [])
    → get_or (take (length raster - plane) (drop plane raster)) (k * colours) 0 ≡ get_or (get_or (separated colours raster) plane []) k 0)
bytes_are colours area plane raster h lt size =
    let a = apart colours area plane raster h lt size in (
      sym a.many,
      λ k below.
          ap (λ (l : List ℕ). get_or l (k * colours) 0) (take_rest raster plane) ∙ get_or-drop plane raster (k * colours) 0
          ∙ ap (λ n. get_or raster n 0) (omega arith) ∙ a.there k (omega (arith, a.many)),
    )

pub pairs_are : (colours area plane : ℕ) (raster : List ℕ) → (colours ≡ 1) ⊎ (colours ≡ 3) → plane < colours
    → length raster ≡ (colours * area) * 2
    → (area ≡ length (get_or (separated colours (pairs raster)) plane []))
    × ((k : ℕ) → k < length (get_or (separated colours (pairs raster)) plane [])
    → 256 * get_or (take (length raster - 2 * plane) (drop (2 * plane) raster)) (k * (2 * colours)) 0
    + get_or (take (length raster - 2 * plane) (drop (2 * plane) raster)) (k * (2 * colours) + 1) 0
    ≡ get_or (get_or (separated colours (pairs raster)) plane []) k 0)
pairs_are colours area plane raster h lt size =
    let many : length (pairs raster) ≡ colours * area = omega (arith, size, length-pairs raster) in
    let a = apart colours area plane (pairs raster) h lt many in
    let at : (n m : ℕ) → 2 * plane + n ≡ m
    → get_or (take (length raster - 2 * plane) (drop (2 * plane) raster)) n 0 ≡ get_or raster m 0 =
    λ n m e.
    ap (λ (l : List ℕ). get_or l n 0) (take_rest raster (2 * plane)) ∙ get_or-drop (2 * plane) raster n 0 ∙ ap (λ m. get_or raster m 0) e in (
      sym a.many,
      λ k below.
          let inside : k < area = omega (arith, a.many) in
          let j = k * colours + plane in
          let within : j < colours * area = mul-add-lt k colours plane area inside lt in
          let fits : 2 * j + 1 < length raster = omega (arith, size, within) in
          let high = at (k * (2 * colours)) (2 * j) (omega arith) in
          let low = at (k * (2 * colours) + 1) (2 * j + 1) (omega arith) in
          rw (high, low) (sym (get_or-pairs raster j fits) ∙ a.there k inside),
    )
