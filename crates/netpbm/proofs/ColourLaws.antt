-- Samples that stand in turn, and the planes that they are of.
use Rattle.std.proofs.Common.{◌≡◌, ℕ, zero, suc, ◌*◌, ◌≤◌, ◌⊎◌, inl, inr, List, [], ◌∷◌, length, All, refl, ap, ◌∙◌, arith}
use Rattle.std.proofs.lemmas.List.Elements.{All-cons, All-nil, All-head, All-tail}
use Rattle.netpbm.specs.Image.{IsPlane}
use Rattle.netpbm.specs.Colours.{woven, interleaved, pick, thirds, separated}
use Rattle.netpbm.proofs.Written.{by_colours, All-woven}

-- ---- apart and together again

woven-thirds : (n : ℕ) (xs : List ℕ) → length xs ≡ 3 * n → woven (thirds 0 xs) (thirds 1 xs) (thirds 2 xs) ≡ xs
woven-thirds n [] e = refl
woven-thirds n (a ∷ []) e = absurd (omega arith)
woven-thirds n (a ∷ b ∷ []) e = absurd (omega arith)
woven-thirds zero (a ∷ b ∷ c ∷ xs) e = absurd (omega arith)
woven-thirds (suc n) (a ∷ b ∷ c ∷ xs) e = ap (λ (l : List ℕ). a ∷ b ∷ c ∷ l) (woven-thirds n xs (omega arith))

pub length-thirds : (colour n : ℕ) (xs : List ℕ) → length xs ≡ 3 * n → length (thirds colour xs) ≡ n
length-thirds colour n [] e = omega arith
length-thirds colour n (a ∷ []) e = absurd (omega arith)
length-thirds colour n (a ∷ b ∷ []) e = absurd (omega arith)
length-thirds colour zero (a ∷ b ∷ c ∷ xs) e = absurd (omega arith)
length-thirds colour (suc n) (a ∷ b ∷ c ∷ xs) e = ap suc (length-thirds colour n xs (omega arith))

All-thirds : (colour max : ℕ) (xs : List ℕ) → All (λ s. s ≤ max) xs → All (λ s. s ≤ max) (thirds colour xs)
All-thirds colour max [] h = All-nil (λ s. s ≤ max)
All-thirds colour max (a ∷ []) h = All-nil (λ s. s ≤ max)
All-thirds colour max (a ∷ b ∷ []) h = All-nil (λ s. s ≤ max)
All-thirds colour max (a ∷ b ∷ c ∷ xs) h =
    let P : ℕ → Type 0 = λ s. s ≤ max in
    let rest = All-tail P a (b ∷ c ∷ xs) h in
    let rest2 = All-tail P b (c ∷ xs) rest in
    All-cons P (pick colour a b c) (thirds colour xs)
    (picked colour (All-head P a (b ∷ c ∷ xs) h) (All-head P b (c ∷ xs) rest) (All-head P c xs rest2))
    (All-thirds colour max xs (All-tail P c xs rest2))
  where
    picked : (colour : ℕ) → a ≤ max → b ≤ max → c ≤ max → pick colour a b c ≤ max
    picked zero p q r = p
    picked (suc zero) p q r = q
    picked (suc (suc n)) p q r = r

pub in_turn : (colours area : ℕ) (samples : List ℕ) → (colours ≡ 1) ⊎ (colours ≡ 3) → length samples ≡ colours * area
    → interleaved (separated colours samples) ≡ samples
in_turn colours area samples h size = elim h [
  | inl e ↦ rw e refl
  | inr e ↦ let three : length samples ≡ 3 * area = size ∙ ap (λ n. n * area) e in rw e (woven-thirds area samples three)
]

-- what planes of samples in turn are
pub record AreOf (area max colours : ℕ) (samples : List ℕ) (planes : List (List ℕ)) : Type 0 where
  pub number : length planes ≡ colours
  pub each : All (IsPlane area max) planes
  pub turns : interleaved planes ≡ samples

pub separated_are : (area max colours : ℕ) (samples : List ℕ) → (colours ≡ 1) ⊎ (colours ≡ 3) → length samples ≡ colours * area
    → All (λ s. s ≤ max) samples → AreOf area max colours samples (separated colours samples)
separated_are area max colours samples h size bounded = elim h [
  | inl e ↦
      let one : length samples ≡ area = size ∙ ap (λ n. n * area) e ∙ omega arith in
      rw e (record {
        number = refl;
        each = All-cons (IsPlane area max) samples [] (record { whole = one; bounded = bounded }) (All-nil (IsPlane area max));
        turns = refl;
      })
  | inr e ↦
      let three : length samples ≡ 3 * area = size ∙ ap (λ n. n * area) e in
      let plane : (colour : ℕ) → IsPlane area max (thirds colour samples) =
      λ colour. record { whole = length-thirds colour area samples three; bounded = All-thirds colour max samples bounded } in
      let P = IsPlane area max in
      rw e (record {
        number = refl;
        each =
            All-cons P (thirds 0 samples) (thirds 1 samples ∷ thirds 2 samples ∷ []) (plane 0)
            (All-cons P (thirds 1 samples) (thirds 2 samples ∷ []) (plane 1) (All-cons P (thirds 2 samples) [] (plane 2) (All-nil P)));
        turns = woven-thirds area samples three;
      })
]

-- ---- together and apart again

thirds_0 : (n : ℕ) (rs gs bs : List ℕ) → length rs ≡ n → length gs ≡ n → length bs ≡ n → thirds 0 (woven rs gs bs) ≡ rs
thirds_0 n [] gs bs e f g = refl
thirds_0 n (r ∷ rs) [] bs e f g = absurd (omega arith)
thirds_0 n (r ∷ rs) (x ∷ gs) [] e f g = absurd (omega arith)
thirds_0 zero (r ∷ rs) (x ∷ gs) (b ∷ bs) e f g = absurd (omega arith)
thirds_0 (suc n) (r ∷ rs) (x ∷ gs) (b ∷ bs) e f g =
    ap (λ (l : List ℕ). r ∷ l) (thirds_0 n rs gs bs (omega arith) (omega arith) (omega arith))

thirds_1 : (n : ℕ) (rs gs bs : List ℕ) → length rs ≡ n → length gs ≡ n → length bs ≡ n → thirds 1 (woven rs gs bs) ≡ gs
thirds_1 n [] [] bs e f g = refl
thirds_1 n [] (x ∷ gs) bs e f g = absurd (omega arith)
thirds_1 n (r ∷ rs) [] bs e f g = absurd (omega arith)
thirds_1 n (r ∷ rs) (x ∷ gs) [] e f g = absurd (omega arith)
thirds_1 zero (r ∷ rs) (x ∷ gs) (b ∷ bs) e f g = absurd (omega arith)
thirds_1 (suc n) (r ∷ rs) (x ∷ gs) (b ∷ bs) e f g =
    ap (λ (l : List ℕ). x ∷ l) (thirds_1 n rs gs bs (omega arith) (omega arith) (omega arith))

thirds_2 : (n : ℕ) (rs gs bs : List ℕ) → length rs ≡ n → length gs ≡ n → length bs ≡ n → thirds 2 (woven rs gs bs) ≡ bs
thirds_2 n [] gs [] e f g = refl
thirds_2 n [] gs (b ∷ bs) e f g = absurd (omega arith)
thirds_2 n (r ∷ rs) [] bs e f g = absurd (omega arith)
thirds_2 n (r ∷ rs) (x ∷ gs) [] e f g = absurd (omega arith)
thirds_2 zero (r ∷ rs) (x ∷ gs) (b ∷ bs) e f g = absurd (omega arith)
thirds_2 (suc n) (r ∷ rs) (x ∷ gs) (b ∷ bs) e f g =
    ap (λ (l : List ℕ). b ∷ l) (thirds_2 n rs gs bs (omega arith) (omega arith) (omega arith))

length_woven : (n : ℕ) (rs gs bs : List ℕ) → length rs ≡ n → length gs ≡ n → length bs ≡ n → length (woven rs gs bs) ≡ 3 * n
length_woven n [] gs bs e f g = omega arith
length_woven n (r ∷ rs) [] bs e f g = absurd (omega arith)
length_woven n (r ∷ rs) (x ∷ gs) [] e f g = absurd (omega arith)
length_woven zero (r ∷ rs) (x ∷ gs) (b ∷ bs) e f g = absurd (omega arith)
length_woven (suc n) (r ∷ rs) (x ∷ gs) (b ∷ bs) e f g = omega (arith, length_woven n rs gs bs (omega arith) (omega arith) (omega arith))

-- what samples of planes in turn are
pub record AreIn (area max : ℕ) (planes : List (List ℕ)) : Type 0 where
  pub number : length (interleaved planes) ≡ length planes * area
  pub bounded : All (λ s. s ≤ max) (interleaved planes)
  pub apart : separated (length planes) (interleaved planes) ≡ planes

pub interleaved_are : (area max : ℕ) (planes : List (List ℕ)) → (length planes ≡ 1) ⊎ (length planes ≡ 3) → All (IsPlane area max) planes
    → AreIn area max planes
interleaved_are area max planes colours each = by_colours (λ ps. All (IsPlane area max) ps → AreIn area max ps)
    (λ grey h.
    let g = h 0 [] (omega arith) in
    record { number = omega (arith, g.whole); bounded = g.bounded; apart = refl })
    (λ red green blue h.
    let r = h 0 [] (omega arith) in
    let g = h 1 [] (omega arith) in
    let b = h 2 [] (omega arith) in
    record {
      number = length_woven area red green blue r.whole g.whole b.whole;
      bounded = All-woven max red green blue r.bounded g.bounded b.bounded;
      apart =
          ap (λ (l : List ℕ). l ∷ thirds 1 (woven red green blue) ∷ thirds 2 (woven red green blue) ∷ [])
          (thirds_0 area red green blue r.whole g.whole b.whole)
          ∙ ap (λ (l : List ℕ). red ∷ l ∷ thirds 2 (woven red green blue) ∷ []) (thirds_1 area red green blue r.whole g.whole b.whole)
          ∙ ap (λ (l : List ℕ). red ∷ green ∷ l ∷ []) (thirds_2 area red green blue r.whole g.whole b.whole);
    })
    planes colours each
