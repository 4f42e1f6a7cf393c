-- White space, comments and digits: what stands in front is taken whole, and no more.
use Rattle.std.proofs.Common.{◌≡◌, ℕ, suc, ◌<◌, ◌≤◌, inl, inr, Bool, true, false, eqb, leb, ◌||◌, List, [], ◌∷◌, ◌++◌, length}
use Rattle.std.proofs.Common.{take, drop, refl, sym, ap, subst, ◌∙◌, arith}
use Rattle.std.specs.Char.{is_ascii_digit, digit_value}
use Rattle.std.specs.List.{list_all}
use Rattle.std.specs.Str.Parse.{AllDigits, IsNumeral}
use Rattle.std.proofs.lemmas.Bool.{cases_Bool, cases_lt, cond-true, cond-false, and_parts, and_from, and_left, or_parts, or_cases}
use Rattle.std.proofs.lemmas.Bool.{or_left, leb-true, le-leb, lt-leb, eqb-true, ne_eqb, both_ways}
use Rattle.std.proofs.lemmas.Str.{digit_value_digit}
use Rattle.std.proofs.lemmas.Str.Parse.{digit_from_value}
use Rattle.netpbm.specs.Text.{is_white, white_len, digits_len, digits_in_front}
use Rattle.netpbm.specs.Scanning.{may_stand, is_open_behind, gap_len}
use Rattle.netpbm.specs.Grammar.{NoDigit, IsWhite}
use Rattle.netpbm.proofs.Scans.{is_filler, is_cut_filler}

-- ---- classes of bytes

pub digit_is : (c : ℕ) → is_ascii_digit c ≡ true → (48 ≤ c) × (c ≤ 57)
digit_is c h = let parts = and_parts _ _ h in (leb-true 48 c parts.0, leb-true c 57 parts.1)

pub digit_from : (c : ℕ) → 48 ≤ c → c ≤ 57 → is_ascii_digit c ≡ true
digit_from c le le' = and_from _ _ (le-leb 48 c le) (le-leb c 57 le')

pub white_is : (c : ℕ) → is_white c ≡ true → c ≤ 32
white_is c h = elim (cases_lt 32 c) [ inl lt ↦ absurd (both_ways (is_white c) (not_white c lt) h) | inr le ↦ le ]
  where
    not_white : (c : ℕ) → 32 < c → is_white c ≡ false
    not_white c lt =
        rw (ne_eqb c 32 (λ e. omega arith), ne_eqb c 9 (λ e. omega arith), ne_eqb c 13 (λ e. omega arith), ne_eqb c 10 (λ e. omega arith))
        refl

-- behind a filler a digit begins a number
pub digit_stands_not : (c : ℕ) → is_ascii_digit c ≡ true → may_stand false c ≡ false
digit_stands_not c h =
    let r = digit_is c h in
    rw (
      ne_eqb c 32 (λ e. omega arith),
      ne_eqb c 9 (λ e. omega arith),
      ne_eqb c 13 (λ e. omega arith),
      ne_eqb c 10 (λ e. omega arith),
      ne_eqb c 35 (λ e. omega arith),
    ) refl

pub digit_not_white : (c : ℕ) → is_ascii_digit c ≡ true → is_white c ≡ false
digit_not_white c h =
    let r = digit_is c h in
    rw (ne_eqb c 32 (λ e. omega arith), ne_eqb c 9 (λ e. omega arith), ne_eqb c 13 (λ e. omega arith), ne_eqb c 10 (λ e. omega arith)) refl

not_digit_below : (c : ℕ) → c < 48 → is_ascii_digit c ≡ false
not_digit_below c lt = and_left (leb 48 c) (leb c 57) (lt-leb 48 c lt)

pub white_no_digit : (c : ℕ) → is_white c ≡ true → is_ascii_digit c ≡ false
white_no_digit c h = let le = white_is c h in not_digit_below c (omega arith)

-- what may stand outside a comment is no digit
pub stands_no_digit : (c : ℕ) → may_stand false c ≡ true → is_ascii_digit c ≡ false
stands_no_digit c h = elim (or_cases (is_white c) (eqb c 35) h) [
  | inl w ↦ white_no_digit c w
  | inr e ↦ let same = eqb-true c 35 e in not_digit_below c (omega arith)
]

pub white_stands : (c : ℕ) → is_white c ≡ true → may_stand false c ≡ true
white_stands c h = or_left (is_white c) _ h

-- ---- white space

pub white_all : (xs : List ℕ) → IsWhite (take (white_len xs) xs)
white_all [] = refl
white_all (c ∷ cs) = elim (cases_Bool (is_white c)) [
  | inl holds ↦
      let n : white_len (c ∷ cs) ≡ suc (white_len cs) = cond-true (is_white c) _ 0 holds ∙ omega arith in
      rw (n) (and_from (is_white c) (list_all is_white (take (white_len cs) cs)) holds (white_all cs))
  | inr fails ↦ let n : white_len (c ∷ cs) ≡ 0 = cond-false (is_white c) _ 0 fails in rw (n) refl
]

-- behind the white space in front nothing or a byte that is not white
abbrev pub NoWhite : List ℕ → Type 0
NoWhite [] = Unit {0}
NoWhite (c ∷ cs) = is_white c ≡ false

pub white_stops : (xs : List ℕ) → NoWhite (drop (white_len xs) xs)
white_stops [] = tt
white_stops (c ∷ cs) = elim (cases_Bool (is_white c)) [
  | inl holds ↦
      let n : white_len (c ∷ cs) ≡ suc (white_len cs) = cond-true (is_white c) _ 0 holds ∙ omega arith in
      subst (λ k. NoWhite (drop k (c ∷ cs))) (sym n) (white_stops cs)
  | inr fails ↦ let n : white_len (c ∷ cs) ≡ 0 = cond-false (is_white c) _ 0 fails in subst (λ k. NoWhite (drop k (c ∷ cs))) (sym n) fails
]

pub white_len-append : (ws rest : List ℕ) → IsWhite ws → NoWhite rest → white_len (ws ++ rest) ≡ length ws
white_len-append [] [] h fails = refl
white_len-append [] (c ∷ cs) h fails = cond-false (is_white c) _ 0 fails
white_len-append (w ∷ ws) rest h fails =
    let parts = and_parts (is_white w) (list_all is_white ws) h in
    let rest-is = white_len-append ws rest parts.1 fails in
    cond-true (is_white w) _ 0 parts.0 ∙ omega arith

-- ---- digits

pub digits_all : (xs : List ℕ) → AllDigits 10 (digits_in_front xs)
digits_all [] = tt
digits_all (c ∷ cs) = elim (cases_Bool (is_ascii_digit c)) [
  | inl holds ↦
      let n : digits_len (c ∷ cs) ≡ suc (digits_len cs) = cond-true (is_ascii_digit c) _ 0 holds ∙ omega arith in
      let r = digit_is c holds in
      let value : digit_value c < 10 = omega (arith, digit_value_digit c r) in
      subst (λ k. AllDigits 10 (take k (c ∷ cs))) (sym n) (value, digits_all cs)
  | inr fails ↦
      let n : digits_len (c ∷ cs) ≡ 0 = cond-false (is_ascii_digit c) _ 0 fails in subst (λ k. AllDigits 10 (take k (c ∷ cs))) (sym n) tt
]

pub digits_stop : (xs : List ℕ) → NoDigit (drop (digits_len xs) xs)
digits_stop [] = tt
digits_stop (c ∷ cs) = elim (cases_Bool (is_ascii_digit c)) [
  | inl holds ↦
      let n : digits_len (c ∷ cs) ≡ suc (digits_len cs) = cond-true (is_ascii_digit c) _ 0 holds ∙ omega arith in
      subst (λ k. NoDigit (drop k (c ∷ cs))) (sym n) (digits_stop cs)
  | inr fails ↦
      let n : digits_len (c ∷ cs) ≡ 0 = cond-false (is_ascii_digit c) _ 0 fails in subst (λ k. NoDigit (drop k (c ∷ cs))) (sym n) fails
]

pub digit_of_value : (c : ℕ) → digit_value c < 10 → is_ascii_digit c ≡ true
digit_of_value c lt = let r = digit_from_value c lt in digit_from c r.0 r.1

pub digits_len-append : (ds rest : List ℕ) → AllDigits 10 ds → NoDigit rest → digits_len (ds ++ rest) ≡ length ds
digits_len-append [] [] h fails = refl
digits_len-append [] (c ∷ cs) h fails = cond-false (is_ascii_digit c) _ 0 fails
digits_len-append (d ∷ ds) rest h fails =
    let rest-is = digits_len-append ds rest h.1 fails in
    cond-true (is_ascii_digit d) _ 0 (digit_of_value d h.0) ∙ omega arith

-- digits stand first
pub starts_not_white : (ds rest : List ℕ) → IsNumeral 10 ds → NoWhite (ds ++ rest)
starts_not_white [] rest h = absurd (omega (arith, h.0))
starts_not_white (d ∷ ds) rest h = digit_not_white d (digit_of_value d h.1.0)

-- ---- gaps

-- nothing that may stand outside a comment stands first
abbrev pub NoFiller : List ℕ → Type 0
NoFiller [] = Unit {0}
NoFiller (c ∷ cs) = may_stand false c ≡ false

pub starts_no_filler : (ds rest : List ℕ) → IsNumeral 10 ds → NoFiller (ds ++ rest)
starts_no_filler [] rest h = absurd (omega (arith, h.0))
starts_no_filler (d ∷ ds) rest h = digit_stands_not d (digit_of_value d h.1.0)

gap_more : (in_comment : Bool) (c : ℕ) (cs : List ℕ) → may_stand in_comment c ≡ true
    → gap_len in_comment (c ∷ cs) ≡ suc (gap_len (is_open_behind in_comment c) cs)
gap_more in_comment c cs holds = cond-true (may_stand in_comment c) _ 0 holds

gap_none : (in_comment : Bool) (c : ℕ) (cs : List ℕ) → may_stand in_comment c ≡ false → gap_len in_comment (c ∷ cs) ≡ 0
gap_none in_comment c cs fails = cond-false (may_stand in_comment c) _ 0 fails

pub gap_cut : (in_comment : Bool) (xs : List ℕ) → is_cut_filler in_comment (take (gap_len in_comment xs) xs) ≡ true
gap_cut in_comment [] = refl
gap_cut in_comment (c ∷ cs) = elim (cases_Bool (may_stand in_comment c)) [
  | inl holds ↦
      let open' = is_open_behind in_comment c in
      rw (gap_more in_comment c cs holds)
      (and_from (may_stand in_comment c) (is_cut_filler open' (take (gap_len open' cs) cs)) holds (gap_cut open' cs))
  | inr fails ↦ rw (gap_none in_comment c cs fails) refl
]

-- where a byte stands behind it, each comment has ended, and that byte goes on with nothing
pub gap_whole : (in_comment : Bool) (xs : List ℕ) (byte : ℕ) (rest : List ℕ) → drop (gap_len in_comment xs) xs ≡ byte ∷ rest
    → (is_filler in_comment (take (gap_len in_comment xs) xs) ≡ true) × (may_stand false byte ≡ false)
gap_whole in_comment [] byte rest e = absurd cc
gap_whole in_comment (c ∷ cs) byte rest e = elim (cases_Bool (may_stand in_comment c)) [
  | inl holds ↦
      let open' = is_open_behind in_comment c in
      let n = gap_more in_comment c cs holds in
      let there = gap_whole open' cs byte rest (sym (ap (λ k. drop k (c ∷ cs)) n) ∙ e) in
      (rw n (and_from (may_stand in_comment c) (is_filler open' (take (gap_len open' cs) cs)) holds there.0), there.1)
  | inr fails ↦
      let n = gap_none in_comment c cs fails in
      let out = or_parts in_comment (may_stand false c) (sym (stand_or in_comment c) ∙ fails) in
      let same : c ∷ cs ≡ byte ∷ rest = sym (ap (λ k. drop k (c ∷ cs)) n) ∙ e in
      (rw (n, out.0) refl, subst (λ b. may_stand false b ≡ false) (head_is c byte cs rest same) out.1)
]
  where
    head_is : (a b : ℕ) (xs ys : List ℕ) → a ∷ xs ≡ b ∷ ys → a ≡ b
    head_is a b xs ys e = cc

    stand_or : (in_comment : Bool) (c : ℕ) → may_stand in_comment c ≡ (in_comment || may_stand false c)
    stand_or true c = refl
    stand_or false c = refl

pub gap_len-append : (in_comment : Bool) (gap rest : List ℕ) → is_filler in_comment gap ≡ true → NoFiller rest
    → gap_len in_comment (gap ++ rest) ≡ length gap
gap_len-append true [] rest h fails = absurd cc
gap_len-append false [] [] h fails = refl
gap_len-append false [] (c ∷ cs) h fails = gap_none false c cs fails
gap_len-append in_comment (g ∷ gap) rest h fails =
    let parts = and_parts (may_stand in_comment g) (is_filler (is_open_behind in_comment g) gap) h in
    gap_more in_comment g (gap ++ rest) parts.0 ∙ ap suc (gap_len-append (is_open_behind in_comment g) gap rest parts.1 fails)

pub gap_len-le : (in_comment : Bool) (xs : List ℕ) → gap_len in_comment xs ≤ length xs
gap_len-le in_comment [] = omega arith
gap_len-le in_comment (c ∷ cs) = elim (cases_Bool (may_stand in_comment c)) [
  | inl holds ↦ let n = gap_more in_comment c cs holds in let le = gap_len-le (is_open_behind in_comment c) cs in omega arith
  | inr fails ↦ let n = gap_none in_comment c cs fails in omega arith
]

-- a gap does not begin with a digit
pub gap_no_digit : (gap rest : List ℕ) → 0 < length gap → is_filler false gap ≡ true → NoDigit (gap ++ rest)
gap_no_digit [] rest some h = absurd (omega arith)
gap_no_digit (g ∷ gap) rest some h = stands_no_digit g (and_parts (may_stand false g) _ h).0
