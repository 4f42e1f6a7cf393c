-- Reading a number of the header: what stands at its place, or why none does.
use Rattle.std.proofs.Common.{◌≡◌, ℕ, ◌+◌, ◌<◌, ◌≤◌, ◌⊎◌, inl, inr, min, Bool, true, false, cond, ltb, eqb, ◌&&◌, ◌||◌, List, []}
use Rattle.std.proofs.Common.{◌∷◌, ◌++◌, length, get_or, take, drop, Result, Ok}
use Rattle.std.proofs.Common.{Err, refl, sym, ap, subst, ◌∙◌, arith, drop-drop, drop_at, take_at}
use Rattle.std.specs.Prelude.{MatchResult}
use Rattle.std.specs.Char.{is_ascii_digit}
use Rattle.std.specs.Str.Parse.{IsNumeral, digits_value}
use Rattle.std.proofs.lemmas.Bool.{cases_Bool, cond-true, cond-false, and_cases, or_cases, or_parts, or_from, lt-ltb, le-ltb}
use Rattle.std.proofs.lemmas.Bool.{ltb-true, ltb-false, eqb-true, and_parts}
use Rattle.std.proofs.lemmas.List.{take-append-drop, length-take-le, length-drop, get_or-drop}
use Rattle.std.proofs.lemmas.List.Sums.{prefix_len-le-length}
use Rattle.netpbm.specs.declared.fault.PicFault.{PicFault}
use Rattle.netpbm.specs.declared.fault.PicFault.TheVariants.{HeaderCut, BadNumber, BadSize, BadMax, CommentBehindDigit}
use Rattle.netpbm.specs.declared.header.HeaderNumber.{HeaderNumber}
use Rattle.netpbm.specs.Image.{InRange}
use Rattle.netpbm.specs.Text.{is_white, begins_filler, digits_len, digits_in_front}
use Rattle.netpbm.specs.Scanning.{gap_len}
use Rattle.netpbm.specs.Grammar.{IsNumber, Filler, IsGap, NoDigit}
use Rattle.netpbm.specs.Faults.{CutFiller}
use Rattle.netpbm.specs.Reading.{◌>>=◌, header_stop, number_read, size_read, max_read, white_read}
use Rattle.netpbm.proofs.Gaps.{filler_from, filler_scans, cut_from}
use Rattle.netpbm.proofs.TextLaws.{gap_cut, gap_whole, gap_len-append}
use Rattle.netpbm.proofs.TextLaws.{gap_len-le, digits_all, digits_stop, digits_len-append, starts_no_filler}

pub nil_or_cons : (xs : List ℕ) → (xs ≡ []) ⊎ ((x : ℕ) × (rest : List ℕ) × (xs ≡ x ∷ rest))
nil_or_cons [] = inl refl
nil_or_cons (x ∷ xs) = inr (x, xs, refl)

-- what stands behind a part
pub behind : (bytes xs ys : List ℕ) (at : ℕ) → drop at bytes ≡ xs ++ ys → drop (at + length xs) bytes ≡ ys
behind bytes xs ys at e = sym (drop-drop (length xs) at bytes) ∙ ap (drop (length xs)) e ∙ drop_at xs ys (length xs) refl

-- a gap, the digits of a number, and what follows
pub record NumberThere (bytes : List ℕ) (at : ℕ) (n : HeaderNumber) : Type 0 where
  pub gap : List ℕ
  pub digits : List ℕ
  pub rest : List ℕ
  pub parts : drop at bytes ≡ gap ++ (digits ++ rest)
  pub gap_is : IsGap gap
  pub numeral : IsNumeral 10 digits
  pub taken : NoDigit rest
  pub value : n.value ≡ min 65536 (digits_value 10 digits)
  pub start : n.start ≡ at + length gap
  pub end : n.end ≡ at + length gap + length digits

-- a gap, or its place, and behind it nothing or a byte that begins no number
pub record StopThere (bytes : List ℕ) (at : ℕ) (e : PicFault) : Type 0 where
  pub filler : List ℕ
  pub rest : List ℕ
  pub parts : drop at bytes ≡ filler ++ rest
  pub cut : CutFiller filler
  pub which :
      ((rest ≡ []) × (e ≡ HeaderCut (length bytes)))
      ⊎ ((byte : ℕ) × (more : List ℕ) × (rest ≡ byte ∷ more) × Filler filler × (begins_filler byte ≡ false)
      × (e ≡ BadNumber (at + length filler)) × (is_ascii_digit byte ≡ true → filler ≡ []))

some_digit : (xs : List ℕ) → 0 < digits_len xs → (x : ℕ) × (rest : List ℕ) × (xs ≡ x ∷ rest)
some_digit [] lt = absurd (omega arith)
some_digit (x ∷ xs) lt = (x, xs, refl)

digit_first : (x : ℕ) (xs : List ℕ) → is_ascii_digit x ≡ true → 0 < digits_len (x ∷ xs)
digit_first x xs h = let n = cond-true (is_ascii_digit x) (1 + digits_len xs) 0 h in omega (arith, n)

drop_empty : (bytes : List ℕ) (at : ℕ) → at ≤ length bytes → drop at bytes ≡ [] → at ≡ length bytes
drop_empty bytes at le e = let n = ap length e in omega (arith, n, length-drop at bytes)

drop_some : (bytes : List ℕ) (at x : ℕ) (rest : List ℕ) → drop at bytes ≡ x ∷ rest → at < length bytes
drop_some bytes at x rest e = let n = ap length e in omega (arith, n, length-drop at bytes)

pub number_view : (bytes : List ℕ) (at : ℕ) → at ≤ length bytes
    → MatchResult (number_read bytes at) (NumberThere bytes at) (StopThere bytes at)
unfolding number_read
number_view bytes at le =
    let xs = drop at bytes in
    let len = gap_len false xs in
    let start = at + len in
    let rest = drop start bytes in
    let count = digits_len rest in
    let within : len ≤ length xs = gap_len-le false xs in
    let rest-is : drop len xs ≡ rest = drop-drop len at bytes in
    let size : length (take len xs) ≡ len = length-take-le len xs within in
    let whole : xs ≡ take len xs ++ rest = sym (take-append-drop len xs) ∙ ap (λ l. take len xs ++ l) rest-is in
    let test = ltb at start && ltb start (start + count) in
    let n : HeaderNumber = record { value = min 65536 (digits_value 10 (digits_in_front rest)); start = start; end = start + count } in
    let P : Result HeaderNumber PicFault → Type 0 = λ r. MatchResult r (NumberThere bytes at) (StopThere bytes at) in
    elim (cases_Bool test) [
      | inl h ↦
          let tests = and_parts (ltb at start) (ltb start (start + count)) h in
          let some : 0 < len = omega (arith, ltb-true at start tests.0) in
          let digits : 0 < count = omega (arith, ltb-true start (start + count) tests.1) in
          let first = some_digit rest digits in
          let closed = gap_whole false xs first.0 first.1 (rest-is ∙ first.2) in
          let there : NumberThere bytes at n = record {
            gap = take len xs;
            digits = digits_in_front rest;
            rest = drop count rest;
            parts = whole ∙ ap (λ l. take len xs ++ l) (sym (take-append-drop count rest));
            gap_is = record { some = omega (arith, size); filler = filler_from _ closed.0 };
            numeral = (omega (arith, length-take-le count rest (digits_len-le rest)), digits_all rest);
            taken = digits_stop rest;
            value = refl;
            start = ap (λ k. at + k) (sym size);
            end =
                ap (λ k. at + k + count) (sym size)
                ∙ ap (λ k. at + length (take len xs) + k) (sym (length-take-le count rest (digits_len-le rest)));
          } in
          subst P (sym (cond-true test (Ok n) (Err (header_stop bytes start)) h)) there
      | inr h ↦
          let stop : StopThere bytes at (header_stop bytes start) = record {
            filler = take len xs;
            rest = rest;
            parts = whole;
            cut = cut_from _ (gap_cut false xs);
            which = elim (nil_or_cons rest) [
              | inl none ↦
                  let there : start ≡ length bytes = drop_empty bytes start (omega (arith, within, length-drop at bytes)) none in
                  inl (
                    none,
                    cond-false (ltb start (length bytes)) (BadNumber start) (HeaderCut start) (le-ltb start (length bytes) (omega arith))
                        ∙ ap HeaderCut there,
                  )
              | inr (byte, more, e) ↦
                  let closed = gap_whole false xs byte more (rest-is ∙ e) in
                  let inside = drop_some bytes start byte more e in
                  inr (
                    byte,
                    more,
                    e,
                    filler_from _ closed.0,
                    closed.1,
                    cond-true (ltb start (length bytes)) (BadNumber start) (HeaderCut start) (lt-ltb start (length bytes) inside)
                        ∙ ap (λ k. BadNumber (at + k)) (sym size),
                    λ digit. elim (and_cases (ltb at start) (ltb start (start + count)) h) [
                      | inl a ↦ let zero' : len ≡ 0 = omega (arith, ltb-false at start a) in ap (λ k. take k xs) zero'
                      | inr b ↦ let none : count ≡ 0 = omega (arith, ltb-false start (start + count) b) in
                          let some = subst (λ l. 0 < digits_len l) (sym e) (digit_first byte more digit) in
                          absurd (omega (arith, none, some))
                    ],
                  )
            ];
          } in
          subst P (sym (cond-false test (Ok n) (Err (header_stop bytes start)) h)) stop
    ]
  where
    digits_len-le : (xs : List ℕ) → digits_len xs ≤ length xs
    digits_len-le xs = prefix_len-le-length is_ascii_digit xs

pub number_complete : (bytes : List ℕ) (at : ℕ) (gap digits rest : List ℕ) → drop at bytes ≡ gap ++ (digits ++ rest) → IsGap gap
    → IsNumeral 10 digits → NoDigit rest
    → number_read bytes at
    ≡ Ok (record { value = min 65536 (digits_value 10 digits); start = at + length gap; end = at + length gap + length digits })
unfolding number_read
number_complete bytes at gap digits rest e g d stops =
    let len : gap_len false (drop at bytes) ≡ length gap =
    ap (gap_len false) e ∙ gap_len-append false gap (digits ++ rest) (filler_scans gap g.filler) (starts_no_filler digits rest d) in
    let there : drop (at + length gap) bytes ≡ digits ++ rest = behind bytes gap (digits ++ rest) at e in
    let count : digits_len (digits ++ rest) ≡ length digits = digits_len-append digits rest d.1 stops in
    let front : take (length digits) (digits ++ rest) ≡ digits = take_at digits rest (length digits) refl in
    let one = lt-ltb at (at + length gap) (omega (arith, g.some)) in
    let two = lt-ltb (at + length gap) (at + length gap + length digits) (omega (arith, d.0)) in
    rw (len, there, count, front, one, two) refl

-- ---- a number in its range

-- the number of a field, in its range
pub record FieldThere (limit : ℕ) (bytes : List ℕ) (at : ℕ) (x : ℕ × ℕ) : Type 0 where
  pub gap : List ℕ
  pub digits : List ℕ
  pub rest : List ℕ
  pub parts : drop at bytes ≡ gap ++ (digits ++ rest)
  pub gap_is : IsGap gap
  pub number : IsNumber digits x.0
  pub taken : NoDigit rest
  pub range : InRange limit x.0
  pub end : x.1 ≡ at + length gap + length digits

-- one out of its range
pub record BadThere (limit : ℕ) (bytes : List ℕ) (at start : ℕ) : Type 0 where
  pub gap : List ℕ
  pub digits : List ℕ
  pub rest : List ℕ
  pub number : ℕ
  pub parts : drop at bytes ≡ gap ++ (digits ++ rest)
  pub gap_is : IsGap gap
  pub number_is : IsNumber digits number
  pub taken : NoDigit rest
  pub out : InRange limit number → ⊥
  pub place : start ≡ at + length gap

abbrev pub field_read : ℕ → (ℕ → PicFault) → Result HeaderNumber PicFault → Result (ℕ × ℕ) PicFault
field_read limit bad r = r >>= λ n. cond (ltb n.value 1 || ltb limit n.value) (Err (bad n.start)) (Ok (n.value, n.end))

abbrev pub FieldFails : ℕ → (ℕ → PicFault) → List ℕ → ℕ → PicFault → Type 0
FieldFails limit bad bytes at e = StopThere bytes at e ⊎ ((start : ℕ) × (e ≡ bad start) × BadThere limit bytes at start)

pub field_view : (limit : ℕ) (bad : ℕ → PicFault) (bytes : List ℕ) (at : ℕ) (r : Result HeaderNumber PicFault) → limit ≤ 65535
    → MatchResult r (NumberThere bytes at) (StopThere bytes at)
    → MatchResult (field_read limit bad r) (FieldThere limit bytes at) (FieldFails limit bad bytes at)
field_view limit bad bytes at (Err e) le h = inl h
field_view limit bad bytes at (Ok n) le h =
    let test = ltb n.value 1 || ltb limit n.value in
    let P : Result (ℕ × ℕ) PicFault → Type 0 = λ r. MatchResult r (FieldThere limit bytes at) (FieldFails limit bad bytes at) in
    elim (cases_Bool test) [
      | inl t ↦
          let out : InRange limit (digits_value 10 h.digits) → ⊥ = λ range. elim (or_cases (ltb n.value 1) (ltb limit n.value) t) [
            | inl a ↦ omega (arith, ltb-true n.value 1 a, h.value, range.least, range.most)
            | inr b ↦ omega (arith, ltb-true limit n.value b, h.value, range.least, range.most)
          ] in
          let there : BadThere limit bytes at n.start = record {
            gap = h.gap;
            digits = h.digits;
            rest = h.rest;
            number = digits_value 10 h.digits;
            parts = h.parts;
            gap_is = h.gap_is;
            number_is = record { numeral = h.numeral; value = refl };
            taken = h.taken;
            out = out;
            place = h.start;
          } in
          subst P (sym (cond-true test (Err (bad n.start)) (Ok (n.value, n.end)) t)) (inr (n.start, refl, there))
      | inr f ↦
          let tests = or_parts (ltb n.value 1) (ltb limit n.value) f in
          let low = ltb-false n.value 1 tests.0 in
          let high = ltb-false limit n.value tests.1 in
          let there : FieldThere limit bytes at (n.value, n.end) = record {
            gap = h.gap;
            digits = h.digits;
            rest = h.rest;
            parts = h.parts;
            gap_is = h.gap_is;
            number = record { numeral = h.numeral; value = omega (arith, h.value, high) };
            taken = h.taken;
            range = record { least = low; most = high };
            end = h.end;
          } in
          subst P (sym (cond-false test (Err (bad n.start)) (Ok (n.value, n.end)) f)) there
    ]

pub size_view : (bytes : List ℕ) (at : ℕ) → at ≤ length bytes
    → MatchResult (size_read bytes at) (FieldThere 4096 bytes at) (FieldFails 4096 BadSize bytes at)
unfolding size_read
size_view bytes at le = field_view 4096 BadSize bytes at (number_read bytes at) (omega arith) (number_view bytes at le)

pub max_view : (bytes : List ℕ) (at : ℕ) → at ≤ length bytes
    → MatchResult (max_read bytes at) (FieldThere 65535 bytes at) (FieldFails 65535 BadMax bytes at)
unfolding max_read
max_view bytes at le = field_view 65535 BadMax bytes at (number_read bytes at) (omega arith) (number_view bytes at le)

field_complete : (limit : ℕ) (bad : ℕ → PicFault) (n : HeaderNumber) (value : ℕ) → limit ≤ 65535 → n.value ≡ min 65536 value → InRange limit value
    → field_read limit bad (Ok n) ≡ Ok (value, n.end)
field_complete limit bad n value le e range =
    let same : n.value ≡ value = omega (arith, range.most) in
    cond-false (ltb n.value 1 || ltb limit n.value) (Err (bad n.start)) (Ok (n.value, n.end))
    (or_from (ltb n.value 1) (ltb limit n.value) (le-ltb n.value 1 (omega (arith, range.least)))
    (le-ltb limit n.value (omega (arith, range.most))))
    ∙ ap (λ v. Ok (v, n.end)) same

pub size_complete : (bytes : List ℕ) (at : ℕ) (gap digits rest : List ℕ) (value : ℕ) → drop at bytes ≡ gap ++ (digits ++ rest) → IsGap gap
    → IsNumber digits value → NoDigit rest → InRange 4096 value
    → size_read bytes at ≡ Ok (value, at + length gap + length digits)
unfolding size_read
size_complete bytes at gap digits rest value e g d stops range =
    rw (number_complete bytes at gap digits rest e g d.numeral stops)
    (field_complete 4096 BadSize _ value (omega arith) (ap (λ v. min 65536 v) (sym d.value)) range)

pub max_complete : (bytes : List ℕ) (at : ℕ) (gap digits rest : List ℕ) (value : ℕ) → drop at bytes ≡ gap ++ (digits ++ rest) → IsGap gap
    → IsNumber digits value → NoDigit rest → InRange 65535 value
    → max_read bytes at ≡ Ok (value, at + length gap + length digits)
unfolding max_read
max_complete bytes at gap digits rest value e g d stops range =
    rw (number_complete bytes at gap digits rest e g d.numeral stops)
    (field_complete 65535 BadMax _ value (omega arith) (ap (λ v. min 65536 v) (sym d.value)) range)

-- ---- the white byte

abbrev pub WhiteThere : List ℕ → ℕ → ℕ → Type 0
WhiteThere bytes at end = (white : ℕ) × (more : List ℕ) × (drop at bytes ≡ white ∷ more) × (is_white white ≡ true) × (end ≡ at + 1)

abbrev pub WhiteFails : List ℕ → ℕ → PicFault → Type 0
WhiteFails bytes at e =
    ((drop at bytes ≡ []) × (e ≡ HeaderCut (length bytes)))
    ⊎ (((more : List ℕ) × (drop at bytes ≡ 35 ∷ more) × (e ≡ CommentBehindDigit at))
    ⊎ ((byte : ℕ) × (more : List ℕ) × (drop at bytes ≡ byte ∷ more) × (begins_filler byte ≡ false) × (e ≡ BadNumber at)))

first_at : (bytes : List ℕ) (at x : ℕ) (rest : List ℕ) → drop at bytes ≡ x ∷ rest → get_or bytes at 0 ≡ x
first_at bytes at x rest e = sym (ap (λ l. get_or l 0 0) (sym e) ∙ get_or-drop at bytes 0 0 ∙ ap (λ k. get_or bytes k 0) (omega arith))

abbrev white_body : Bool → Bool → Bool → List ℕ → ℕ → Result ℕ PicFault
white_body inside white comment bytes at =
    cond (inside && white) (Ok (at + 1))
    (cond (inside && comment) (Err (CommentBehindDigit at)) (Err (cond inside (BadNumber at) (HeaderCut at))))

white_body-outside : (white comment : Bool) (bytes : List ℕ) (at : ℕ) → white_body false white comment bytes at ≡ Err (HeaderCut at)
white_body-outside white comment bytes at = refl

pub white_view : (bytes : List ℕ) (at : ℕ) → at ≤ length bytes
    → MatchResult (white_read bytes at) (WhiteThere bytes at) (WhiteFails bytes at)
unfolding white_read
white_view bytes at le =
    let P : Result ℕ PicFault → Type 0 = λ r. MatchResult r (WhiteThere bytes at) (WhiteFails bytes at) in
    let body = λ (inside white comment : Bool). white_body inside white comment bytes at in
    let here = get_or bytes at 0 in
    elim (nil_or_cons (drop at bytes)) [
      | inl none ↦
          let end = drop_empty bytes at le none in
          let out = le-ltb at (length bytes) (omega arith) in
          subst P (ap (λ b. body b (is_white here) (eqb here 35)) (sym out)) (inl (none, ap HeaderCut end))
      | inr (x, more, e) ↦
          let inside = lt-ltb at (length bytes) (drop_some bytes at x more e) in
          let same = first_at bytes at x more e in
          let from = ap (λ b. body b (is_white here) (eqb here 35)) inside ∙ ap (λ k. body true (is_white k) (eqb k 35)) same in
          elim (cases_Bool (is_white x)) [
            | inl w ↦ subst P (sym (from ∙ ap (λ b. body true b (eqb x 35)) w)) (x, more, e, w, refl)
            | inr nw ↦ elim (cases_Bool (eqb x 35)) [
              | inl c ↦
                  let there : x ≡ 35 = eqb-true x 35 c in
                  subst P (sym (from ∙ ap (λ b. body true b (eqb x 35)) nw ∙ ap (body true false) c))
                  (inr (inl (more, e ∙ ap (λ k. k ∷ more) there, refl)))
              | inr nc ↦ subst P (sym (from ∙ ap (λ b. body true b (eqb x 35)) nw ∙ ap (body true false) nc))
                  (inr (inr (x, more, e, or_from (is_white x) (eqb x 35) nw nc, refl)))
            ]
          ]
    ]

pub white_complete : (bytes : List ℕ) (at white : ℕ) (more : List ℕ) → drop at bytes ≡ white ∷ more → is_white white ≡ true
    → white_read bytes at ≡ Ok (at + 1)
unfolding white_read
white_complete bytes at white more e w =
    let inside = lt-ltb at (length bytes) (drop_some bytes at white more e) in
    let same = first_at bytes at white more e in
    rw (inside, same, w) refl
