-- Reading a raw raster: its samples, or its first fault.
use Rattle.std.proofs.Common.{◌≡◌, ℕ, zero, suc, ◌+◌, ◌-◌, ◌*◌, ◌/◌, ◌%◌, ◌<◌, ◌≤◌, ◌⊎◌, inl, inr, true, ltb, List, [], ◌∷◌, ◌++◌}
use Rattle.std.proofs.Common.{length, get_or, take, drop, All, Result, Ok, refl, sym, ap, subst, ◌∙◌, arith, append_assoc}
use Rattle.std.proofs.Common.{append-nil, take_all, take-take}
use Rattle.std.specs.Prelude.{MatchResult}
use Rattle.std.specs.List.{flat_map}
use Rattle.std.proofs.lemmas.Bool.{cases_Bool, cases_lt, cond-true, cond-false, ltb-true, ltb-false}
use Rattle.std.proofs.lemmas.List.{take-append-drop, length-take-le, length-take, length-drop, take_more, get_or-drop, get_or-take}
use Rattle.std.proofs.lemmas.List.Elements.{All-from_get_or}
use Rattle.std.proofs.lemmas.List.Sums.{fails_before_first, passes_at_first}
use Rattle.std.proofs.lemmas.Grind.{flat_map-append}
use Rattle.netpbm.specs.declared.fault.PicFault.{PicFault}
use Rattle.netpbm.specs.declared.fault.PicFault.TheVariants.{SampleTooBig, RasterCut, TrailingBytes}
use Rattle.netpbm.specs.Raw.{width_of, two_bytes, sample_bytes, raw_raster, pairs, decoded, first_big}
use Rattle.netpbm.specs.Reading.{raw_read}
use Rattle.netpbm.proofs.NumberLaws.{nil_or_cons}
use Rattle.netpbm.proofs.Rasters.{raw_raster_one, raw_raster_two}
use Rattle.netpbm.proofs.RawReads.{width_one, width_two, decoded_one, decoded_two, length-decoded, none_big, is_whole}

-- each is a byte
abbrev pub AreBytes : List ℕ → Type 0
AreBytes bytes = (i : ℕ) → get_or bytes i 0 < 256

AreBytes-tail : (x : ℕ) (xs : List ℕ) → AreBytes (x ∷ xs) → AreBytes xs
AreBytes-tail x xs h i = h (suc i)

-- ---- what is decoded is what was written

pub pairs_back : (samples : List ℕ) → pairs (flat_map two_bytes samples) ≡ samples
pairs_back [] = refl
pairs_back (s ∷ ss) =
    let whole : 256 * (s / 256) + s % 256 ≡ s = omega arith in
    ap (λ v. v ∷ pairs (flat_map two_bytes ss)) whole ∙ ap (λ (l : List ℕ). s ∷ l) (pairs_back ss)

length_two : (samples : List ℕ) → length (flat_map two_bytes samples) ≡ length samples * 2
length_two [] = refl
length_two (s ∷ ss) = omega (arith, length_two ss)

pub decoded_back : (max : ℕ) (samples : List ℕ) → decoded max (raw_raster max samples) ≡ samples
decoded_back max samples = elim (cases_lt max 256) [
  | inl lt ↦ decoded_one max (raw_raster max samples) lt ∙ raw_raster_one max samples lt
  | inr le ↦ decoded_two max (raw_raster max samples) le ∙ ap pairs (raw_raster_two max samples le) ∙ pairs_back samples
]

pub length-raw_raster : (max : ℕ) (samples : List ℕ) → length (raw_raster max samples) ≡ length samples * width_of max
length-raw_raster max samples = elim (cases_lt max 256) [
  | inl lt ↦ ap length (raw_raster_one max samples lt) ∙ sym (ap (λ w. length samples * w) (width_one max lt) ∙ omega arith)
  | inr le ↦ ap length (raw_raster_two max samples le) ∙ length_two samples ∙ sym (ap (λ w. length samples * w) (width_two max le))
]

-- ---- what is written of what was decoded

two_back : (n : ℕ) (bytes : List ℕ) → AreBytes bytes → n ≤ length bytes / 2 → flat_map two_bytes (take n (pairs bytes)) ≡ take (n * 2) bytes
two_back zero bytes h le = refl
two_back (suc n) [] h le = absurd (omega arith)
two_back (suc n) (a ∷ []) h le = absurd (omega arith)
two_back (suc n) (a ∷ b ∷ bytes) h le =
    let low : b < 256 = h 1 in
    let high : (256 * a + b) / 256 ≡ a = omega arith in
    let rest : (256 * a + b) % 256 ≡ b = omega arith in
    let more : suc n * 2 ≡ suc (suc (n * 2)) = omega arith in
    let again = two_back n bytes (AreBytes-tail b bytes (AreBytes-tail a (b ∷ bytes) h)) (omega arith) in
    rw (high, rest, more) (ap (λ (l : List ℕ). a ∷ b ∷ l) again)

pub raster_back : (max n : ℕ) (bytes : List ℕ) → AreBytes bytes → n ≤ length bytes / width_of max
    → raw_raster max (take n (decoded max bytes)) ≡ take (n * width_of max) bytes
raster_back max n bytes h le = elim (cases_lt max 256) [
  | inl lt ↦
      let w = width_one max lt in
      let one : n * width_of max ≡ n = ap (λ k. n * k) w ∙ omega arith in
      raw_raster_one max _ lt ∙ ap (take n) (decoded_one max bytes lt) ∙ ap (λ k. take k bytes) (sym one)
  | inr ge ↦
      let w = width_two max ge in
      let fits : n ≤ length bytes / 2 = subst (λ k. n ≤ length bytes / k) w le in
      raw_raster_two max _ ge ∙ ap (λ (l : List ℕ). flat_map two_bytes (take n l)) (decoded_two max bytes ge) ∙ two_back n bytes h fits
      ∙ ap (λ k. take (n * k) bytes) (sym w)
]

-- what follows the first samples, and one more
pub raster_split : (max n : ℕ) (bytes : List ℕ) → AreBytes bytes → n ≤ length bytes / width_of max
    → bytes ≡ raw_raster max (take n (decoded max bytes)) ++ drop (n * width_of max) bytes
raster_split max n bytes h le =
    sym (take-append-drop (n * width_of max) bytes)
    ∙ ap (λ (l : List ℕ). l ++ drop (n * width_of max) bytes) (sym (raster_back max n bytes h le))

pub raster_next : (max n : ℕ) (bytes : List ℕ) → AreBytes bytes → n < length bytes / width_of max
    → bytes
    ≡ raw_raster max (take n (decoded max bytes))
    ++ (sample_bytes max (get_or (decoded max bytes) n 0) ++ drop ((n + 1) * width_of max) bytes)
raster_next max n bytes h lt =
    let samples = decoded max bytes in
    let s = get_or samples n 0 in
    let inside : n < length samples = omega (arith, length-decoded max bytes) in
    let more : raw_raster max (take (n + 1) samples) ≡ raw_raster max (take n samples) ++ sample_bytes max s =
    ap (raw_raster max) (take_more samples n 0 inside) ∙ flat_map-append (sample_bytes max) (take n samples) (s ∷ [])
    ∙ ap (λ (l : List ℕ). raw_raster max (take n samples) ++ l) (append-nil (sample_bytes max s)) in
    raster_split max (n + 1) bytes h (omega arith) ∙ ap (λ (l : List ℕ). l ++ drop ((n + 1) * width_of max) bytes) more
    ∙ append_assoc (raw_raster max (take n samples)) (sample_bytes max s) (drop ((n + 1) * width_of max) bytes)

-- ---- what reading answers

pub record RawThere (bytes : List ℕ) (start max count : ℕ) (samples : List ℕ) : Type 0 where
  pub raster : drop start bytes ≡ raw_raster max samples
  pub bounded : All (λ s. s ≤ max) samples
  pub number : length samples ≡ count

pub record RawFails (bytes : List ℕ) (start max count : ℕ) (e : PicFault) : Type 0 where
  pub samples : List ℕ
  pub rest : List ℕ
  pub parts : drop start bytes ≡ raw_raster max samples ++ rest
  pub bounded : All (λ s. s ≤ max) samples
  pub which :
      ((length samples < count) × (length rest < width_of max) × (e ≡ RasterCut (length bytes)))
      ⊎ (((s : ℕ) × (more : List ℕ) × (length samples < count) × (rest ≡ sample_bytes max s ++ more) × (max < s)
      × (e ≡ SampleTooBig (start + length (raw_raster max samples))))
      ⊎ ((byte : ℕ) × (more : List ℕ) × (length samples ≡ count) × (rest ≡ byte ∷ more)
      × (e ≡ TrailingBytes (start + length (raw_raster max samples)))))

-- no sample before the first one above the greatest is above it
before_big : (max : ℕ) (samples : List ℕ) (n : ℕ) → n ≤ first_big max samples → All (λ s. s ≤ max) (take n samples)
before_big max samples n le = All-from_get_or (λ s. s ≤ max) (take n samples) 0 (λ k lt.
    let inside : k < n = omega (arith, length-take n samples) in
    let low : get_or samples k 0 ≤ max =
    ltb-false max (get_or samples k 0) (fails_before_first (λ s. ltb max s) samples k 0 (omega arith)) in
    subst (λ v. v ≤ max) (sym (get_or-take n samples k 0 inside)) low)

quotient_rest : (n w : ℕ) → (w ≡ 1) ⊎ (w ≡ 2) → n - (n / w * w) < w
quotient_rest n w h = elim h [ inl e ↦ rw e (omega arith) | inr e ↦ rw e (omega arith) ]

pub width_is : (max : ℕ) → (width_of max ≡ 1) ⊎ (width_of max ≡ 2)
width_is max = elim (cases_lt max 256) [ inl lt ↦ inl (width_one max lt) | inr le ↦ inr (width_two max le) ]

pub fits_quotient : (n w count : ℕ) → (w ≡ 1) ⊎ (w ≡ 2) → n ≤ count * w → count ≤ n / w → n ≡ count * w
fits_quotient n w count h le ge = elim h [
  | inl e ↦ let le' = subst (λ k. n ≤ count * k) e le in let ge' = subst (λ k. count ≤ n / k) e ge in rw e (omega arith)
  | inr e ↦ let le' = subst (λ k. n ≤ count * k) e le in let ge' = subst (λ k. count ≤ n / k) e ge in rw e (omega arith)
]

pub raw_view : (bytes : List ℕ) (start max count : ℕ) → AreBytes bytes
    → MatchResult (raw_read bytes start max count) (RawThere bytes start max count) (RawFails bytes start max count)
unfolding raw_read
raw_view bytes start max count h =
    let raster = drop start bytes in
    let are : AreBytes raster = λ i. subst (λ v. v < 256) (sym (get_or-drop start bytes i 0)) (h (start + i)) in
    let samples = decoded max raster in
    let size : length samples ≡ length raster / width_of max = length-decoded max raster in
    let firsts = take count samples in
    let place = first_big max firsts in
    let w = width_of max in
    let V : Result (List ℕ) PicFault → Type 0 = λ r. MatchResult r (RawThere bytes start max count) (RawFails bytes start max count) in
    let len = length-take count samples in
    elim (cases_Bool (ltb place (length firsts))) [
      | inl big ↦
          let inside : place < length firsts = ltb-true place (length firsts) big in
          let few : place < count = omega (arith, len) in
          let s = get_or samples place 0 in
          let same : get_or firsts place 0 ≡ s = get_or-take count samples place 0 few in
          let above : max < s = ltb-true max s (subst (λ v. ltb max v ≡ true) same (passes_at_first (λ v. ltb max v) firsts 0 inside)) in
          let whole : place < length raster / w = omega (arith, len, size) in
          let shorter : take place firsts ≡ take place samples = take-take-le place count samples (omega arith) in
          let bounded : All (λ v. v ≤ max) (take place samples) =
          subst (All (λ v. v ≤ max)) shorter (before_big max firsts place (omega arith)) in
          let amount : length (take place samples) ≡ place = length-take-le place samples (omega (arith, len)) in
          let written : length (raw_raster max (take place samples)) ≡ place * w =
          length-raw_raster max (take place samples) ∙ ap (λ k. k * w) amount in
          let fails : RawFails bytes start max count (SampleTooBig (start + place * w)) = record {
            samples = take place samples;
            rest = sample_bytes max s ++ drop ((place + 1) * w) raster;
            parts = raster_next max place raster are whole;
            bounded = bounded;
            which =
                inr (inl (
                  s,
                  drop ((place + 1) * w) raster,
                  omega (arith, amount),
                  refl,
                  above,
                  ap (λ k. SampleTooBig (start + k)) (sym written),
                ));
          } in
          subst V (sym (cond-true (ltb place (length firsts)) _ _ big)) fails
      | inr none ↦
          let top : length firsts ≤ place = ltb-false place (length firsts) none in
          let low : All (λ v. v ≤ max) firsts =
          subst (All (λ v. v ≤ max)) (take_all (length firsts) firsts (omega arith)) (before_big max firsts (length firsts) top) in
          elim (cases_Bool (ltb (length samples) count)) [
            | inl short ↦
                let few : length samples < count = ltb-true (length samples) count short in
                let all : firsts ≡ samples = take_all count samples (omega arith) in
                let whole = raster_split max (length samples) raster are (omega (arith, size)) in
                let trimmed : take (length samples) samples ≡ samples = take_all (length samples) samples (omega arith) in
                let left : length (drop (length samples * w) raster) < w =
                let r = quotient_rest (length raster) w (width_is max) in
                subst (λ k. k < w) (sym (length-drop (length samples * w) raster ∙ ap (λ k. length raster - (k * w)) size)) r in
                let fails : RawFails bytes start max count (RasterCut (length bytes)) = record {
                  samples = samples;
                  rest = drop (length samples * w) raster;
                  parts = whole ∙ ap (λ (l : List ℕ). raw_raster max l ++ drop (length samples * w) raster) trimmed;
                  bounded = subst (All (λ v. v ≤ max)) all low;
                  which = inl (few, left, refl);
                } in
                subst V (sym (cond-false (ltb place (length firsts)) _ _ none ∙ cond-true (ltb (length samples) count) _ _ short)) fails
            | inr enough ↦
                let many : count ≤ length samples = ltb-false (length samples) count enough in
                let amount : length firsts ≡ count = length-take-le count samples many in
                elim (cases_Bool (ltb (count * w) (length raster))) [
                  | inl long ↦
                      let over : count * w < length raster = ltb-true (count * w) (length raster) long in
                      let whole = raster_split max count raster are (omega (arith, size)) in
                      let written : length (raw_raster max firsts) ≡ count * w = length-raw_raster max firsts ∙ ap (λ k. k * w) amount in
                      let fails : RawFails bytes start max count (TrailingBytes (start + count * w)) = record {
                        samples = firsts;
                        rest = drop (count * w) raster;
                        parts = whole;
                        bounded = low;
                        which = elim (nil_or_cons (drop (count * w) raster)) [
                          | inl empty ↦ absurd (omega (arith, ap length empty, length-drop (count * w) raster))
                          | inr (byte, more, e) ↦ inr (inr (byte, more, amount, e, ap (λ k. TrailingBytes (start + k)) (sym written)))
                        ];
                      } in
                      subst V (sym (cond-false (ltb place (length firsts)) _ _ none ∙ cond-false (ltb (length samples) count) _ _ enough
                      ∙ cond-true (ltb (count * w) (length raster)) _ _ long)) fails
                  | inr fits ↦
                      let le : length raster ≤ count * w = ltb-false (count * w) (length raster) fits in
                      let exact : length raster ≡ count * w =
                      fits_quotient (length raster) w count (width_is max) le (omega (arith, size)) in
                      let back = raster_back max (length samples) raster are (omega (arith, size)) in
                      let number : length samples ≡ count = size ∙ ap (λ k. k / w) exact ∙ product_quotient count w (width_is max) in
                      let all : firsts ≡ samples = take_all count samples (omega (arith, number)) in
                      let whole : raw_raster max samples ≡ raster =
                      ap (raw_raster max) (sym (take_all (length samples) samples (omega arith))) ∙ back
                      ∙ take_all (length samples * w) raster (subst (λ k. length raster ≤ k * w) (sym number) le) in
                      let there : RawThere bytes start max count samples =
                      record { raster = sym whole; bounded = subst (All (λ v. v ≤ max)) all low; number = number } in
                      subst V (sym (cond-false (ltb place (length firsts)) _ _ none ∙ cond-false (ltb (length samples) count) _ _ enough
                      ∙ cond-false (ltb (count * w) (length raster)) _ _ fits)) there
                ]
          ]
    ]
  where
    take-take-le : (m n : ℕ) (l : List ℕ) → m ≤ n → take m (take n l) ≡ take m l
    take-take-le m n l le = take-take m n l le

    product_quotient : (count w : ℕ) → (w ≡ 1) ⊎ (w ≡ 2) → count * w / w ≡ count
    product_quotient count w h = elim h [ inl e ↦ rw e (omega arith) | inr e ↦ rw e (omega arith) ]

pub raw_complete : (bytes : List ℕ) (start max : ℕ) (samples : List ℕ) → drop start bytes ≡ raw_raster max samples
    → All (λ s. s ≤ max) samples → raw_read bytes start max (length samples) ≡ Ok samples
raw_complete bytes start max samples e bounded =
    let raster = drop start bytes in
    let back : decoded max raster ≡ samples = ap (decoded max) e ∙ decoded_back max samples in
    let same : decoded max raster ≡ take (length samples) (decoded max raster) =
    sym (take_all (length samples) (decoded max raster) (omega (arith, ap length back))) in
    let none : first_big max (decoded max raster) ≡ length (decoded max raster) =
    none_big max (decoded max raster) (subst (All (λ s. s ≤ max)) (sym back) bounded) in
    let size : length raster ≡ length samples * width_of max = ap length e ∙ length-raw_raster max samples in
    is_whole bytes raster start max (length samples) same none (omega (arith, ap length back)) (omega (arith, size))
    ∙ ap (λ (l : List ℕ). Ok l) back
