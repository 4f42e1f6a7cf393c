-- Reading a plain raster: its samples, or its first fault.
use Rattle.std.proofs.Common.{◌≡◌, ℕ, zero, suc, ◌+◌, ◌-◌, ◌<◌, ◌≤◌, ◌⊎◌, inl, inr, min, false, cond, eqb, ltb, List, [], ◌∷◌}
use Rattle.std.proofs.Common.{◌++◌, length, take, drop, All, Result, Ok, Err, refl, sym, ap, subst, ◌∙◌, arith, drop-drop}
use Rattle.std.proofs.Common.{take_at, append_assoc, append-nil}
use Rattle.std.specs.Prelude.{MatchResult}
use Rattle.std.specs.Char.{is_ascii_digit}
use Rattle.std.specs.Str.Parse.{IsNumeral, digits_value}
use Rattle.std.proofs.lemmas.Bool.{cases_Bool, cond-true, cond-false, lt-ltb, le-ltb, ltb-true, ltb-false, eqb-true, eqb-false, ne_eqb}
use Rattle.std.proofs.lemmas.List.{take-append-drop, length-take-le, length-drop, length-append}
use Rattle.std.proofs.lemmas.List.Elements.{All-cons, All-nil, All-head, All-tail}
use Rattle.std.proofs.lemmas.List.Sums.{prefix_len-le-length}
use Rattle.netpbm.specs.declared.fault.PicFault.{PicFault}
use Rattle.netpbm.specs.declared.fault.PicFault.TheVariants.{BadNumber, RasterCut, SampleTooBig, TrailingBytes}
use Rattle.netpbm.specs.Text.{is_white, white_len, digits_len, digits_in_front}
use Rattle.netpbm.specs.Grammar.{IsNumber, NoDigit, IsWhite, IsSamples}
use Rattle.netpbm.specs.Reading.{◌>>=◌, plain_stop, sample_read, samples_read, end_read}
use Rattle.netpbm.proofs.TextLaws.{NoWhite, white_all, white_stops}
use Rattle.netpbm.proofs.TextLaws.{white_len-append, digits_all, digits_stop, digits_len-append, starts_not_white}
use Rattle.netpbm.proofs.NumberLaws.{nil_or_cons, behind}

-- ---- one sample

pub record SampleThere (bytes : List ℕ) (at max : ℕ) (x : ℕ × ℕ) : Type 0 where
  pub white : List ℕ
  pub digits : List ℕ
  pub rest : List ℕ
  pub parts : drop at bytes ≡ white ++ (digits ++ rest)
  pub white_is : IsWhite white
  pub number : IsNumber digits x.0
  pub taken : NoDigit rest
  pub small : x.0 ≤ max
  pub end : x.1 ≡ at + length white + length digits

-- why no sample stands at the front of what is left, which begins at a place
pub record SampleFails (left : List ℕ) (at total max : ℕ) (e : PicFault) : Type 0 where
  pub white : List ℕ
  pub rest : List ℕ
  pub parts : left ≡ white ++ rest
  pub white_is : IsWhite white
  pub which :
      ((rest ≡ []) × (e ≡ RasterCut total))
      ⊎ (((byte : ℕ) × (more : List ℕ) × (rest ≡ byte ∷ more) × (is_white byte ≡ false) × (is_ascii_digit byte ≡ false)
      × (e ≡ BadNumber (at + length white)))
      ⊎ ((digits more : List ℕ) × (n : ℕ) × (rest ≡ digits ++ more) × IsNumber digits n × NoDigit more × (max < n)
      × (e ≡ SampleTooBig (at + length white))))

abbrev sample_body : ℕ → ℕ → ℕ → ℕ → ℕ → Result (ℕ × ℕ) PicFault
sample_body start count value max total =
    cond (eqb (start + count) start) (Err (cond (ltb start total) (BadNumber start) (RasterCut start)))
    (cond (ltb max value) (Err (SampleTooBig start)) (Ok (value, start + count)))

no_digit_there : (byte : ℕ) (more : List ℕ) → digits_len (byte ∷ more) ≡ 0 → is_ascii_digit byte ≡ false
no_digit_there byte more e = elim (cases_Bool (is_ascii_digit byte)) [
  | inl t ↦ let some = cond-true (is_ascii_digit byte) (1 + digits_len more) 0 t in absurd (omega (arith, some, e))
  | inr f ↦ f
]

pub sample_view : (bytes : List ℕ) (at max : ℕ) → at ≤ length bytes → max ≤ 65535
    → MatchResult (sample_read bytes at max) (SampleThere bytes at max) (SampleFails (drop at bytes) at (length bytes) max)
unfolding sample_read
sample_view bytes at max le small =
    let xs = drop at bytes in
    let len = white_len xs in
    let start = at + len in
    let rest = drop start bytes in
    let count = digits_len rest in
    let digits = digits_in_front rest in
    let value = min 65536 (digits_value 10 digits) in
    let within : len ≤ length xs = prefix_len-le-length is_white xs in
    let rest-is : drop len xs ≡ rest = drop-drop len at bytes in
    let size : length (take len xs) ≡ len = length-take-le len xs within in
    let whole : xs ≡ take len xs ++ rest = sym (take-append-drop len xs) ∙ ap (λ (l : List ℕ). take len xs ++ l) rest-is in
    let white : IsWhite (take len xs) = white_all xs in
    let stops : NoWhite rest = subst NoWhite rest-is (white_stops xs) in
    let V : Result (ℕ × ℕ) PicFault → Type 0 = λ r. MatchResult r (SampleThere bytes at max) (SampleFails xs at (length bytes) max) in
    let place : start ≡ at + length (take len xs) = ap (λ k. at + k) (sym size) in
    let length-rest : length rest ≡ length bytes - start = length-drop start bytes in
    elim (cases_Bool (eqb (start + count) start)) [
      | inl none ↦
          let zero' : count ≡ 0 = omega (arith, eqb-true (start + count) start none) in
          let fails : SampleFails xs at (length bytes) max (plain_stop bytes start) = record {
            white = take len xs;
            rest = rest;
            parts = whole;
            white_is = white;
            which = elim (nil_or_cons rest) [
              | inl empty ↦
                  let end : start ≡ length bytes = omega (arith, ap length empty, length-rest, within, length-drop at bytes) in
                  inl (
                    empty,
                    cond-false (ltb start (length bytes)) (BadNumber start) (RasterCut start) (le-ltb start (length bytes) (omega arith))
                        ∙ ap RasterCut end,
                  )
              | inr (byte, more, e) ↦
                  let inside : start < length bytes = omega (arith, ap length e, length-rest) in
                  inr (inl (
                    byte,
                    more,
                    e,
                    subst NoWhite e stops,
                    no_digit_there byte more (ap digits_len (sym e) ∙ zero'),
                    cond-true (ltb start (length bytes)) (BadNumber start) (RasterCut start) (lt-ltb start (length bytes) inside)
                        ∙ ap BadNumber place,
                  ))
            ];
          } in
          subst V (sym (cond-true (eqb (start + count) start) _ _ none)) fails
      | inr some ↦
          let many : 0 < count = let differ = eqb-false (start + count) start some in omega (arith, differ) in
          let fit : count ≤ length rest = prefix_len-le-length is_ascii_digit rest in
          let digits-len : length digits ≡ count = length-take-le count rest fit in
          let numeral : IsNumeral 10 digits = (omega (arith, digits-len), digits_all rest) in
          let split : rest ≡ digits ++ drop count rest = sym (take-append-drop count rest) in
          elim (cases_Bool (ltb max value)) [
            | inl big ↦
                let over : max < digits_value 10 digits = omega (arith, ltb-true max value big) in
                let fails : SampleFails xs at (length bytes) max (SampleTooBig start) = record {
                  white = take len xs;
                  rest = rest;
                  parts = whole;
                  white_is = white;
                  which =
                      inr (inr (
                        digits,
                        drop count rest,
                        digits_value 10 digits,
                        split,
                        record { numeral = numeral; value = refl },
                        digits_stop rest,
                        over,
                        ap SampleTooBig place,
                      ));
                } in
                subst V (sym (cond-false (eqb (start + count) start) _ _ some ∙ cond-true (ltb max value) _ _ big)) fails
            | inr fits ↦
                let low = ltb-false max value fits in
                let there : SampleThere bytes at max (value, start + count) = record {
                  white = take len xs;
                  digits = digits;
                  rest = drop count rest;
                  parts = whole ∙ ap (λ (l : List ℕ). take len xs ++ l) split;
                  white_is = white;
                  number = record { numeral = numeral; value = omega (arith, low) };
                  taken = digits_stop rest;
                  small = low;
                  end = omega (arith, place, digits-len);
                } in
                subst V (sym (cond-false (eqb (start + count) start) _ _ some ∙ cond-false (ltb max value) _ _ fits)) there
          ]
    ]

pub sample_complete : (bytes : List ℕ) (at max : ℕ) (white digits rest : List ℕ) (n : ℕ) → max ≤ 65535
    → drop at bytes ≡ white ++ (digits ++ rest) → IsWhite white → IsNumber digits n → NoDigit rest → n ≤ max
    → sample_read bytes at max ≡ Ok (n, at + length white + length digits)
unfolding sample_read
sample_complete bytes at max white digits rest n small e w d stops fits =
    let len : white_len (drop at bytes) ≡ length white =
    ap white_len e ∙ white_len-append white (digits ++ rest) w (starts_not_white digits rest d.numeral) in
    let there : drop (at + length white) bytes ≡ digits ++ rest = behind bytes white (digits ++ rest) at e in
    let count : digits_len (digits ++ rest) ≡ length digits = digits_len-append digits rest d.numeral.1 stops in
    let front : take (length digits) (digits ++ rest) ≡ digits = take_at digits rest (length digits) refl in
    let value : min 65536 (digits_value 10 digits) ≡ n = omega (arith, d.value) in
    let some = ne_eqb (at + length white + length digits) (at + length white) (λ z. omega (arith, d.numeral.0)) in
    let low = le-ltb max n fits in
    rw (len, there, count, front, value, some, low) refl

-- ---- so many samples

pub NoDigit-left : (xs ys : List ℕ) → NoDigit (xs ++ ys) → NoDigit xs
NoDigit-left [] ys h = tt
NoDigit-left (x ∷ xs) ys h = h

pub record SamplesThere (bytes : List ℕ) (at max count : ℕ) (x : List ℕ × ℕ) : Type 0 where
  pub part : List ℕ
  pub rest : List ℕ
  pub parts : drop at bytes ≡ part ++ rest
  pub samples : IsSamples x.0 part
  pub bounded : All (λ s. s ≤ max) x.0
  pub number : length x.0 ≡ count
  pub taken : 0 < length x.0 → NoDigit rest
  pub end : x.1 ≡ at + length part

pub record SamplesFail (bytes : List ℕ) (at max count : ℕ) (e : PicFault) : Type 0 where
  pub samples : List ℕ
  pub part : List ℕ
  pub rest : List ℕ
  pub parts : drop at bytes ≡ part ++ rest
  pub samples_are : IsSamples samples part
  pub bounded : All (λ s. s ≤ max) samples
  pub few : length samples < count
  pub taken : 0 < length samples → NoDigit rest
  pub fails : SampleFails rest (at + length part) (length bytes) max e

abbrev SamplesView : List ℕ → ℕ → ℕ → ℕ → Result (List ℕ × ℕ) PicFault → Type 0
SamplesView bytes at max count r = MatchResult r (SamplesThere bytes at max count) (SamplesFail bytes at max count)

taken_next : (samples part rest after : List ℕ) → IsSamples samples part → (0 < length samples → NoDigit rest) → NoDigit after
    → after ≡ part ++ rest → NoDigit rest
taken_next [] part rest after h later now e = subst NoDigit (e ∙ ap (λ (l : List ℕ). l ++ rest) h) now
taken_next (s ∷ ss) part rest after h later now e = later (omega arith)

longer : (bytes : List ℕ) (at : ℕ) (white digits rest part rest' : List ℕ) → drop at bytes ≡ white ++ (digits ++ rest)
    → rest ≡ part ++ rest' → drop at bytes ≡ (white ++ (digits ++ part)) ++ rest'
longer bytes at white digits rest part rest' e f =
    e ∙ ap (λ (l : List ℕ). white ++ (digits ++ l)) f ∙ ap (λ (l : List ℕ). white ++ l) (sym (append_assoc digits part rest'))
    ∙ sym (append_assoc white (digits ++ part) rest')

samples_step : (bytes : List ℕ) (at max count : ℕ) (x : ℕ × ℕ) (there : SampleThere bytes at max x) → drop x.1 bytes ≡ there.rest
    → (r : Result (List ℕ × ℕ) PicFault) → SamplesView bytes x.1 max count r
    → SamplesView bytes at max (suc count) (r >>= λ others. Ok (x.0 ∷ others.0, others.1))
samples_step bytes at max count x there rest_is (Ok y) h =
    let after : there.rest ≡ h.part ++ h.rest = sym rest_is ∙ h.parts in
    let P : ℕ → Type 0 = λ s. s ≤ max in
    record {
      part = there.white ++ (there.digits ++ h.part);
      rest = h.rest;
      parts = longer bytes at there.white there.digits there.rest h.part h.rest there.parts after;
      samples = (
        there.white,
        there.digits,
        h.part,
        refl,
        there.white_is,
        there.number,
        NoDigit-left h.part h.rest (subst NoDigit after there.taken),
        h.samples,
      );
      bounded = All-cons P x.0 y.0 there.small h.bounded;
      number = ap suc h.number;
      taken = λ _. taken_next y.0 h.part h.rest there.rest h.samples h.taken there.taken after;
      end = omega (arith, h.end, there.end, length-append there.white (there.digits ++ h.part), length-append there.digits h.part);
    }
samples_step bytes at max count x there rest_is (Err e) h =
    let after : there.rest ≡ h.part ++ h.rest = sym rest_is ∙ h.parts in
    let P : ℕ → Type 0 = λ s. s ≤ max in
    let place : x.1 + length h.part ≡ at + length (there.white ++ (there.digits ++ h.part)) =
    omega (arith, there.end, length-append there.white (there.digits ++ h.part), length-append there.digits h.part) in
    record {
      samples = x.0 ∷ h.samples;
      part = there.white ++ (there.digits ++ h.part);
      rest = h.rest;
      parts = longer bytes at there.white there.digits there.rest h.part h.rest there.parts after;
      samples_are = (
        there.white,
        there.digits,
        h.part,
        refl,
        there.white_is,
        there.number,
        NoDigit-left h.part h.rest (subst NoDigit after there.taken),
        h.samples_are,
      );
      bounded = All-cons P x.0 h.samples there.small h.bounded;
      few = omega (arith, h.few);
      taken = λ _. taken_next h.samples h.part h.rest there.rest h.samples_are h.taken there.taken after;
      fails = subst (λ k. SampleFails h.rest k (length bytes) max e) place h.fails;
    }

samples_from : (bytes : List ℕ) (at max count : ℕ)
    → ((at' : ℕ) → at' ≤ length bytes → SamplesView bytes at' max count (samples_read count bytes at' max)) → (r : Result (ℕ × ℕ) PicFault)
    → MatchResult r (SampleThere bytes at max) (SampleFails (drop at bytes) at (length bytes) max) → at ≤ length bytes
    → SamplesView bytes at max (suc count)
    (r >>= λ sample. samples_read count bytes sample.1 max >>= λ others. Ok (sample.0 ∷ others.0, others.1))
samples_from bytes at max count again (Err e) fails le =
    record {
      samples = [];
      part = [];
      rest = drop at bytes;
      parts = refl;
      samples_are = refl;
      bounded = All-nil (λ s. s ≤ max);
      few = omega arith;
      taken = λ some. absurd (omega arith);
      fails = subst (λ k. SampleFails (drop at bytes) k (length bytes) max e) (omega arith) fails;
    }
samples_from bytes at max count again (Ok x) there le =
    let at1 : drop (at + length there.white) bytes ≡ there.digits ++ there.rest =
    behind bytes there.white (there.digits ++ there.rest) at there.parts in
    let rest_is : drop x.1 bytes ≡ there.rest =
    ap (λ k. drop k bytes) there.end ∙ behind bytes there.digits there.rest (at + length there.white) at1 in
    let n = ap length there.parts in
    let inside : x.1 ≤ length bytes =
    omega (
      arith,
      there.end,
      n,
      length-drop at bytes,
      length-append there.white (there.digits ++ there.rest),
      length-append there.digits there.rest,
      le,
      drop_over bytes at,
    ) in
    samples_step bytes at max count x there rest_is (samples_read count bytes x.1 max) (again x.1 inside)
  where
    drop_over : (bytes : List ℕ) (at : ℕ) → length (drop at bytes) ≡ length bytes - at
    drop_over bytes at = length-drop at bytes

pub samples_view : (count : ℕ) (bytes : List ℕ) (at max : ℕ) → at ≤ length bytes → max ≤ 65535
    → SamplesView bytes at max count (samples_read count bytes at max)
unfolding samples_read
samples_view zero bytes at max le small =
    record {
      part =
          [];
      rest =
          drop at bytes;
      parts =
          refl;
      samples =
          refl;
      bounded = All-nil (λ s. s ≤ max);
      number = refl;
      taken = λ some. absurd (omega arith);
      end = omega arith;
    }
samples_view (suc count) bytes at max le small =
    samples_from bytes at max count (λ at' le'. samples_view count bytes at' max le' small) (sample_read bytes at max)
    (sample_view bytes at max le small) le

pub samples_complete : (samples : List ℕ) (bytes part rest : List ℕ) (at max : ℕ) → max ≤ 65535 → drop at bytes ≡ part ++ rest
    → IsSamples samples part → All (λ s. s ≤ max) samples → NoDigit rest
    → samples_read (length samples) bytes at max ≡ Ok (samples, at + length part)
unfolding samples_read
samples_complete [] bytes part rest at max small e h bounded stops = ap (λ k. Ok ([], k)) (omega (arith, ap length h))
samples_complete (s ∷ ss) bytes part rest at max small e (white, digits, part', f, w, d, no_digit, h) bounded stops =
    let P : ℕ → Type 0 = λ s. s ≤ max in
    let parts : drop at bytes ≡ white ++ (digits ++ (part' ++ rest)) =
    e ∙ ap (λ (l : List ℕ). l ++ rest) f ∙ append_assoc white (digits ++ part') rest
    ∙ ap (λ (l : List ℕ). white ++ l) (append_assoc digits part' rest) in
    let first =
    sample_complete bytes at max white digits (part' ++ rest) s small parts w d (joined part' rest no_digit stops)
    (All-head P s ss bounded) in
    let next = at + length white + length digits in
    let at1 : drop (at + length white) bytes ≡ digits ++ (part' ++ rest) = behind bytes white (digits ++ (part' ++ rest)) at parts in
    let at2 : drop next bytes ≡ part' ++ rest = behind bytes digits (part' ++ rest) (at + length white) at1 in
    let others = samples_complete ss bytes part' rest next max small at2 h (All-tail P s ss bounded) stops in
    let end : next + length part' ≡ at + length part =
    omega (arith, ap length f, length-append white (digits ++ part'), length-append digits part') in
    rw (first, others) (ap (λ k. Ok (s ∷ ss, k)) end)
  where
    joined : (xs ys : List ℕ) → NoDigit xs → NoDigit ys → NoDigit (xs ++ ys)
    joined [] ys p q = q
    joined (x ∷ xs) ys p q = p

-- ---- the end

pub record EndsThere (bytes : List ℕ) (at : ℕ) (samples : List ℕ) (r : Result (List ℕ) PicFault) : Type 0 where
  pub white : List ℕ
  pub rest : List ℕ
  pub parts : drop at bytes ≡ white ++ rest
  pub white_is : IsWhite white
  pub which :
      ((rest ≡ []) × (r ≡ Ok samples))
      ⊎ ((byte : ℕ) × (more : List ℕ) × (rest ≡ byte ∷ more) × (is_white byte ≡ false) × (r ≡ Err (TrailingBytes (at + length white))))

pub end_view : (bytes : List ℕ) (at : ℕ) (samples : List ℕ) → at ≤ length bytes → EndsThere bytes at samples (end_read bytes at samples)
unfolding end_read
end_view bytes at samples le =
    let xs = drop at bytes in
    let len = white_len xs in
    let end = at + len in
    let rest = drop end bytes in
    let within : len ≤ length xs = prefix_len-le-length is_white xs in
    let rest-is : drop len xs ≡ rest = drop-drop len at bytes in
    let size : length (take len xs) ≡ len = length-take-le len xs within in
    record {
      white = take len xs;
      rest = rest;
      parts = sym (take-append-drop len xs) ∙ ap (λ (l : List ℕ). take len xs ++ l) rest-is;
      white_is = white_all xs;
      which = elim (nil_or_cons rest) [
        | inl empty ↦
            let there : length bytes ≤ end = omega (arith, ap length empty, length-drop end bytes) in
            inl (empty, cond-false (ltb end (length bytes)) (Err (TrailingBytes end)) (Ok samples) (le-ltb end (length bytes) there))
        | inr (byte, more, e) ↦
            let inside : end < length bytes = omega (arith, ap length e, length-drop end bytes) in
            inr (
              byte,
              more,
              e,
              subst NoWhite (rest-is ∙ e) (white_stops xs),
              cond-true (ltb end (length bytes)) (Err (TrailingBytes end)) (Ok samples) (lt-ltb end (length bytes) inside)
                  ∙ ap (λ k. Err (TrailingBytes (at + k))) (sym size),
            )
      ];
    }

pub end_complete : (bytes white : List ℕ) (at : ℕ) (samples : List ℕ) → at ≤ length bytes → drop at bytes ≡ white → IsWhite white
    → end_read bytes at samples ≡ Ok samples
unfolding end_read
end_complete bytes white at samples le e w =
    let len : white_len (drop at bytes) ≡ length white = ap white_len (e ∙ sym (append-nil white)) ∙ white_len-append white [] w tt in
    let end : length bytes ≤ at + white_len (drop at bytes) = omega (arith, len, ap length e, length-drop at bytes) in
    cond-false (ltb (at + white_len (drop at bytes)) (length bytes)) (Err (TrailingBytes (at + white_len (drop at bytes)))) (Ok samples)
    (le-ltb (at + white_len (drop at bytes)) (length bytes) end)
