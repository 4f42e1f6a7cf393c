-- Which bytes are letters and digits.
use Rattle.std.proofs.Common.{◌≡◌, ℕ, ◌<◌, ◌≤◌, true, false, eqb, inl, inr, arith}
use Rattle.std.specs.Prelude.{◌||◌}
use Rattle.std.specs.Int.{is_in_range}
use Rattle.std.specs.Char.{is_ascii_alphabetic, is_ascii_digit}
use Rattle.std.proofs.lemmas.Bool.{or_cases, or_from, or_left, or_right, and_parts, and_left, leb-true, lt-leb, ne_eqb}
use Rattle.pipe_tokens.specs.Character.{is_white, is_name_byte}

pub letter_in_name : (b : ℕ) → is_ascii_alphabetic b ≡ true → is_name_byte b ≡ true
letter_in_name b e =
    let big = is_in_range 65 90 b in
    let small = is_in_range 97 122 b in
    elim (or_cases big small e) [
      | inl h ↦ or_left _ (eqb b 95) (or_left (is_in_range 48 57 b || big) small (or_right (is_in_range 48 57 b) big h))
      | inr h ↦ or_left _ (eqb b 95) (or_right (is_in_range 48 57 b || big) small h)
    ]

pub digit_in_name : (b : ℕ) → is_ascii_digit b ≡ true → is_name_byte b ≡ true
digit_in_name b e = or_left _ (eqb b 95) (or_left _ (is_in_range 97 122 b) (or_left (is_in_range 48 57 b) (is_in_range 65 90 b) e))

range_above : (lo hi b : ℕ) → is_in_range lo hi b ≡ true → lo ≤ b
range_above lo hi b e = leb-true _ _ (and_parts _ _ e).0

range_below : (lo hi b : ℕ) → is_in_range lo hi b ≡ true → b ≤ hi
range_below lo hi b e = leb-true _ _ (and_parts _ _ e).1

pub letter_above : (b : ℕ) → is_ascii_alphabetic b ≡ true → 65 ≤ b
letter_above b e =
    elim (or_cases (is_in_range 65 90 b) (is_in_range 97 122 b) e) [
      | inl h ↦ range_above 65 90 b h
      | inr h ↦ let above = range_above 97 122 b h in omega arith
    ]

pub letter_below : (b : ℕ) → is_ascii_alphabetic b ≡ true → b ≤ 122
letter_below b e =
    elim (or_cases (is_in_range 65 90 b) (is_in_range 97 122 b) e) [
      | inl h ↦ let below = range_below 65 90 b h in omega arith
      | inr h ↦ range_below 97 122 b h
    ]

pub digit_above : (b : ℕ) → is_ascii_digit b ≡ true → 48 ≤ b
digit_above b e = range_above 48 57 b e

pub digit_below : (b : ℕ) → is_ascii_digit b ≡ true → b ≤ 57
digit_below b e = range_below 48 57 b e

-- a digit is no letter
pub digit_no_letter : (b : ℕ) → is_ascii_digit b ≡ true → is_ascii_alphabetic b ≡ false
digit_no_letter b e =
    let below = digit_below b e in
    or_from _ _ (and_left _ _ (lt-leb 65 b (omega arith))) (and_left _ _ (lt-leb 97 b (omega arith)))

-- white space lies below the letters and digits, and so does `#`
pub no_white : (b : ℕ) → 48 ≤ b → is_white b ≡ false
no_white b le =
    let apart : (n : ℕ) → n < 48 → eqb b n ≡ false = λ n lt. ne_eqb b n (λ e. omega arith) in
    or_from _ _ (or_from _ _ (or_from _ _ (apart 32 (omega arith)) (apart 9 (omega arith))) (apart 13 (omega arith)))
    (apart 10 (omega arith))

pub no_comment : (b : ℕ) → 48 ≤ b → eqb b 35 ≡ false
no_comment b le = ne_eqb b 35 (λ e. omega arith)
