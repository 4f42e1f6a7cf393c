-- Reading a raw raster: its whole samples, and the first one above the greatest.
use Rattle.std.proofs.Common.{◌≡◌, ℕ, zero, suc, ◌+◌, ◌-◌, ◌*◌, ◌/◌, ◌<◌, ◌≤◌, inl, inr, min, cond, ltb, List, [], ◌∷◌}
use Rattle.std.proofs.Common.{length, get_or, take, drop, All, Ok, Err, refl, sym, ap, subst, ◌∙◌, arith}
use Rattle.std.proofs.lemmas.Bool.{cases_lt, lt-ltb, le-ltb}
use Rattle.std.specs.List.{slice_range}
use Rattle.std.proofs.lemmas.List.{take_min, take_rest, take_all, length-drop, length-take-le}
use Rattle.std.proofs.lemmas.List.Elements.{All-from_get_or}
use lib.Seq.{drop-nil}
use Rattle.std.proofs.lemmas.List.Sums.{position_or_len_is}
use Rattle.netpbm.specs.declared.fault.PicFault.TheVariants.{SampleTooBig, RasterCut, TrailingBytes}
use Rattle.netpbm.specs.Raw.{width_of, pairs, decoded, first_big}
use Rattle.netpbm.specs.Reading.{raw_read}
use Rattle.netpbm.proofs.Rasters.{length-pairs, get_or-pairs}

-- ---- one byte or two

pub width_one : (max : ℕ) → max < 256 → width_of max ≡ 1
width_one max lt = ap (λ b. cond b 1 2) (lt-ltb max 256 lt)

pub width_two : (max : ℕ) → 256 ≤ max → width_of max ≡ 2
width_two max le = ap (λ b. cond b 1 2) (le-ltb max 256 le)

pub decoded_one : (max : ℕ) (bytes : List ℕ) → max < 256 → decoded max bytes ≡ bytes
decoded_one max bytes lt = ap (λ b. cond b bytes (pairs bytes)) (lt-ltb max 256 lt)

pub decoded_two : (max : ℕ) (bytes : List ℕ) → 256 ≤ max → decoded max bytes ≡ pairs bytes
decoded_two max bytes le = ap (λ b. cond b bytes (pairs bytes)) (le-ltb max 256 le)

pairs-take : (n : ℕ) (xs : List ℕ) → 2 * n ≤ length xs → pairs (take (2 * n) xs) ≡ take n (pairs xs)
pairs-take zero xs le = refl
pairs-take (suc n) [] le = absurd (omega arith)
pairs-take (suc n) (a ∷ []) le = absurd (omega arith)
pairs-take (suc n) (a ∷ b ∷ xs) le =
    let two : 2 * suc n ≡ suc (suc (2 * n)) = omega arith in
    rw two (ap (λ l. (256 * a + b) ∷ l) (pairs-take n xs (omega arith)))

pairs-drop : (n : ℕ) (xs : List ℕ) → pairs (drop (2 * n) xs) ≡ drop n (pairs xs)
pairs-drop zero xs = refl
pairs-drop (suc n) [] = ap pairs (drop-nil (2 * suc n))
pairs-drop (suc n) (a ∷ []) = ap (λ m. pairs (drop m (a ∷ []))) (two n)
  where
    two : (n : ℕ) → 2 * suc n ≡ suc (suc (2 * n))
    two n = omega arith
pairs-drop (suc n) (a ∷ b ∷ xs) =
    let two : 2 * suc n ≡ suc (suc (2 * n)) = omega arith in
    rw two (pairs-drop n xs)

-- the number of whole samples
pub length-decoded : (max : ℕ) (bytes : List ℕ) → length (decoded max bytes) ≡ length bytes / width_of max
length-decoded max bytes =
    elim (cases_lt max 256) [
      | inl lt ↦ ap length (decoded_one max bytes lt) ∙ sym (ap (λ w. length bytes / w) (width_one max lt) ∙ omega arith)
      | inr le ↦ ap length (decoded_two max bytes le) ∙ length-pairs bytes ∙ sym (ap (λ w. length bytes / w) (width_two max le))
    ]

pub decoded-take : (max count : ℕ) (bytes : List ℕ)
    → decoded max (take (min count (length bytes / width_of max) * width_of max) bytes) ≡ take count (decoded max bytes)
decoded-take max count bytes =
    elim (cases_lt max 256) [
      | inl lt ↦
          let n : min count (length bytes / width_of max) * width_of max ≡ min count (length bytes) = rw (width_one max lt) (omega arith) in
          decoded_one max _ lt ∙ ap (λ m. take m bytes) n ∙ take_min count bytes ∙ ap (take count) (sym (decoded_one max bytes lt))
      | inr le ↦
          let k = min count (length bytes / 2) in
          let n : min count (length bytes / width_of max) * width_of max ≡ 2 * k = rw (width_two max le) (omega arith) in
          decoded_two max _ le ∙ ap (λ m. pairs (take m bytes)) n ∙ pairs-take k bytes (omega arith)
          ∙ ap (λ m. take (min count m) (pairs bytes)) (sym (length-pairs bytes)) ∙ take_min count (pairs bytes)
          ∙ ap (take count) (sym (decoded_two max bytes le))
    ]

pub decoded_short : (max : ℕ) (bytes : List ℕ) → length (decoded max bytes) ≤ length bytes
decoded_short max bytes = elim (cases_lt max 256) [
  | inl lt ↦ rw (decoded_one max bytes lt) (omega arith)
  | inr le ↦ rw (decoded_two max bytes le, length-pairs bytes) (omega arith)
]

-- what so many samples of two bytes take
pub two_bytes_each : (max end : ℕ) (bytes : List ℕ) → 256 ≤ max → end ≤ length (decoded max bytes) → 2 * end ≤ length bytes
two_bytes_each max end bytes two le =
    let pairs_fit : end ≤ length (pairs bytes) = subst (λ (l : List ℕ). end ≤ length l) (decoded_two max bytes two) le in
    omega (arith, length-pairs bytes)

-- the samples from one place up to another are those of their bytes
pub pairs_part : (max : ℕ) (bytes out : List ℕ) (start end : ℕ) → 256 ≤ max → start ≤ end → 2 * end ≤ length bytes
    → take (length (slice_range bytes (2 * start) (2 * end)) / 2) out ≡ pairs (slice_range bytes (2 * start) (2 * end))
    → take (end - start) out ≡ slice_range (decoded max bytes) start end
pairs_part max bytes out start end two le fits h =
    let n : (2 * end) - (2 * start) ≡ 2 * (end - start) = omega arith in
    let rest = drop (2 * start) bytes in
    let part : slice_range bytes (2 * start) (2 * end) ≡ take (2 * (end - start)) rest = ap (λ m. take m rest) n in
    let room : 2 * (end - start) ≤ length rest = omega (arith, length-drop (2 * start) bytes) in
    let many : end - start ≡ length (slice_range bytes (2 * start) (2 * end)) / 2 =
    omega (arith, ap length part, length-take-le (2 * (end - start)) rest room) in
    ap (λ m. take m out) many ∙ h ∙ ap pairs part ∙ pairs-take (end - start) rest room
    ∙ ap (take (end - start)) (pairs-drop start bytes) ∙ ap (λ (l : List ℕ). slice_range l start end) (sym (decoded_two max bytes two))

pub place_fits : (max place : ℕ) (bytes : List ℕ) → place < length (decoded max bytes) → place * width_of max < length bytes
place_fits max place bytes h =
    elim (cases_lt max 256) [
      | inl lt ↦
          let k : place < length bytes = subst (λ (l : List ℕ). place < length l) (decoded_one max bytes lt) h in
          rw (width_one max lt) (omega arith)
      | inr le ↦
          let k : place < length (pairs bytes) = subst (λ (l : List ℕ). place < length l) (decoded_two max bytes le) h in
          rw (width_two max le) (omega (arith, length-pairs bytes))
    ]

-- ---- the first sample above the greatest

pub none_big : (max : ℕ) (xs : List ℕ) → All (λ s. s ≤ max) xs → first_big max xs ≡ length xs
none_big max xs h =
    position_or_len_is (λ s. ltb max s) xs (length xs) 0 (omega arith) (λ k lt. le-ltb max (get_or xs k 0) (h k 0 lt))
    (λ lt. absurd (omega arith))

pub some_big : (max : ℕ) (xs : List ℕ) (i : ℕ) → i < length xs → ((k : ℕ) → k < i → get_or xs k 0 ≤ max) → max < get_or xs i 0
    → i ≡ first_big max xs
some_big max xs i lt h big =
    sym (position_or_len_is (λ s. ltb max s) xs i 0 (omega arith) (λ k below. le-ltb max (get_or xs k 0) (h k below))
    (λ there. lt-ltb max (get_or xs i 0) big))

pub pairs_bounded : (max : ℕ) (bytes : List ℕ)
    → ((k : ℕ) → k < length bytes / 2 → 256 * get_or bytes (2 * k) 0 + get_or bytes (2 * k + 1) 0 ≤ max) → All (λ s. s ≤ max) (pairs bytes)
pairs_bounded max bytes h = All-from_get_or (λ s. s ≤ max) (pairs bytes) 0 (λ k lt.
    let inside : k < length bytes / 2 = omega (arith, length-pairs bytes) in
    rw (get_or-pairs bytes k (omega arith)) (h k inside))

All-pairs : (bytes : List ℕ) → All (λ b. b ≤ 255) bytes → All (λ s. s ≤ 65535) (pairs bytes)
All-pairs bytes h = pairs_bounded 65535 bytes (λ k lt.
    let high = h (2 * k) 0 (omega arith) in
    let low = h (2 * k + 1) 0 (omega arith) in
    omega arith)

pub any_byte : (max : ℕ) → max ≡ 255 → (bytes : List ℕ) → All (λ b. b ≤ 255) bytes → All (λ s. s ≤ max) (decoded max bytes)
any_byte max e bytes h = rw e h

pub any_pair : (max : ℕ) → max ≡ 65535 → (bytes : List ℕ) → All (λ b. b ≤ 255) bytes → All (λ s. s ≤ max) (decoded max bytes)
any_pair max e bytes h = rw e (All-pairs bytes h)

pub big_pair : (max : ℕ) (bytes : List ℕ) (i : ℕ) → i < length bytes / 2
    → ((k : ℕ) → k < i → 256 * get_or bytes (2 * k) 0 + get_or bytes (2 * k + 1) 0 ≤ max)
    → max < 256 * get_or bytes (2 * i) 0 + get_or bytes (2 * i + 1) 0 → i ≡ first_big max (pairs bytes)
big_pair max bytes i lt h big =
    some_big max (pairs bytes) i (omega (arith, length-pairs bytes))
    (λ k below. let here = h k below in rw (get_or-pairs bytes k (omega arith)) here) (rw (get_or-pairs bytes i (omega arith)) big)

-- ---- what reading answers

-- the part that is looked at has the samples that the picture is to have, as far as they are whole
pub looked : (bytes part : List ℕ) (start max count : ℕ)
    → decoded max part ≡ take count (decoded max (take (length bytes - start) (drop start bytes)))
    → decoded max part ≡ take count (decoded max (drop start bytes))
looked bytes part start max count h = h ∙ ap (λ (r : List ℕ). take count (decoded max r)) (take_rest bytes start)

pub whole_samples : (max width start : ℕ) (bytes : List ℕ) → width ≡ width_of max
    → length (decoded max (drop start bytes)) ≡ length (take (length bytes - start) (drop start bytes)) / width
whole_samples max width start bytes e =
    length-decoded max (drop start bytes) ∙ ap (λ (r : List ℕ). length r / width_of max) (sym (take_rest bytes start))
    ∙ ap (λ w. length (take (length bytes - start) (drop start bytes)) / w) (sym e)

pub too_big : (bytes part : List ℕ) (start max count place : ℕ) → decoded max part ≡ take count (decoded max (drop start bytes))
    → place ≡ first_big max (decoded max part) → place < length (decoded max part)
    → raw_read bytes start max count ≡ Err (SampleTooBig (start + place * width_of max))
unfolding raw_read
too_big bytes part start max count place same is lt =
    let samples = take count (decoded max (drop start bytes)) in
    let is' : place ≡ first_big max samples = is ∙ ap (first_big max) same in
    let short : first_big max samples < length samples = omega (arith, is', ap length same) in
    rw (lt-ltb (first_big max samples) (length samples) short) (ap (λ p. Err (SampleTooBig (start + p * width_of max))) (sym is'))

pub is_cut : (bytes part : List ℕ) (start max count : ℕ) → decoded max part ≡ take count (decoded max (drop start bytes))
    → first_big max (decoded max part) ≡ length (decoded max part) → length (decoded max (drop start bytes)) < count
    → raw_read bytes start max count ≡ Err (RasterCut (length bytes))
unfolding raw_read
is_cut bytes part start max count same none short =
    let samples = take count (decoded max (drop start bytes)) in
    let none' : first_big max samples ≡ length samples = ap (first_big max) (sym same) ∙ none ∙ ap length same in
    rw (le-ltb (first_big max samples) (length samples) (omega arith), lt-ltb (length (decoded max (drop start bytes))) count short) refl

pub is_long : (bytes part : List ℕ) (start max count : ℕ) → decoded max part ≡ take count (decoded max (drop start bytes))
    → first_big max (decoded max part) ≡ length (decoded max part) → count ≤ length (decoded max (drop start bytes))
    → count * width_of max < length (drop start bytes) → raw_read bytes start max count ≡ Err (TrailingBytes (start + count * width_of max))
unfolding raw_read
is_long bytes part start max count same none whole long =
    let samples = take count (decoded max (drop start bytes)) in
    let none' : first_big max samples ≡ length samples = ap (first_big max) (sym same) ∙ none ∙ ap length same in
    rw (
      le-ltb (first_big max samples) (length samples) (omega arith),
      le-ltb (length (decoded max (drop start bytes))) count whole,
      lt-ltb (count * width_of max) (length (drop start bytes)) long,
    ) refl

pub is_whole : (bytes part : List ℕ) (start max count : ℕ) → decoded max part ≡ take count (decoded max (drop start bytes))
    → first_big max (decoded max part) ≡ length (decoded max part) → count ≤ length (decoded max (drop start bytes))
    → length (drop start bytes) ≤ count * width_of max → raw_read bytes start max count ≡ Ok (decoded max (drop start bytes))
unfolding raw_read
is_whole bytes part start max count same none whole short =
    let samples = take count (decoded max (drop start bytes)) in
    let none' : first_big max samples ≡ length samples = ap (first_big max) (sym same) ∙ none ∙ ap length same in
    rw (
      le-ltb (first_big max samples) (length samples) (omega arith),
      le-ltb (length (decoded max (drop start bytes))) count whole,
      le-ltb (count * width_of max) (length (drop start bytes)) short,
    ) refl

pub whole_number : (raster : List ℕ) (max count : ℕ) → length raster ≡ count * width_of max → length (decoded max raster) ≡ count
whole_number raster max count size =
    length-decoded max raster
    ∙ elim (cases_lt max 256) [
      | inl lt ↦ rw (size, width_one max lt) (omega arith)
      | inr le ↦ rw (size, width_two max le) (omega arith)
    ]

-- a raster of as many samples as the picture has, none above the greatest
pub is_bounded_whole : (bytes : List ℕ) (start max count : ℕ) → length (drop start bytes) ≡ count * width_of max
    → All (λ s. s ≤ max) (decoded max (drop start bytes)) → raw_read bytes start max count ≡ Ok (decoded max (drop start bytes))
is_bounded_whole bytes start max count size bounded =
    let raster = drop start bytes in
    let many = whole_number raster max count size in
    is_whole bytes raster start max count (sym (take_all count (decoded max raster) (omega arith)))
    (none_big max (decoded max raster) bounded) (omega arith) (omega arith)
