-- Reading digits from the left.
use Rattle.std.proofs.Common.{◌≡◌, ℕ, ◌+◌, ◌*◌, ◌-◌, ◌<◌, Bool, true, cond, List, length, get_or, take, sym, ap, arith}
use Rattle.std.specs.Char.{is_ascii_digit, digit_value}
use Rattle.std.specs.Str.Parse.{digits_value}
use Rattle.std.specs.Int.{IsInRange}
use Rattle.std.specs.List.{AllPass}
use Rattle.std.proofs.lemmas.Bool.{and_parts, leb-true, lt-leb}
use Rattle.std.proofs.lemmas.Str.{digit_value_digit}
use Rattle.std.proofs.lemmas.Int.Digits.{digits_value_more}
use Rattle.std.proofs.lemmas.Str.Parse.{digits_value-take-le}
use Rattle.pipe_tokens.specs.declared.token.Token.TheVariants as tokens
use Rattle.pipe_tokens.specs.Lexing.{token_of_digits}

pub digit_range : (b : ℕ) → is_ascii_digit b ≡ true → IsInRange 48 57 b
digit_range b e = let parts = and_parts _ _ e in (leb-true _ _ parts.0, leb-true _ _ parts.1)

-- one digit more
pub digit_read : (digits : List ℕ) (i value : ℕ) → AllPass is_ascii_digit digits → i < length digits
    → value ≡ digits_value 10 (take i digits)
    → value * 10 + (get_or digits i 0 - 48) ≡ digits_value 10 (take (i + 1) digits)
digit_read digits i value h lt e =
    let range = digit_range (get_or digits i 0) (h i 0 lt) in
    let one : digit_value (get_or digits i 0) + 48 ≡ get_or digits i 0 = digit_value_digit (get_or digits i 0) range in
    let more = digits_value_more 10 digits i lt in
    omega arith

pub too_big : (digits : List ℕ) (i value : ℕ) → value ≡ digits_value 10 (take i digits) → 2147483647 < value
    → tokens.TooBig ≡ token_of_digits digits
too_big digits i value e lt =
    let above : 2147483647 < digits_value 10 digits = omega (arith, digits_value-take-le 10 digits i (omega arith)) in
    sym (ap (λ (b : Bool). cond b (tokens.Int (digits_value 10 digits)) tokens.TooBig) (lt-leb (digits_value 10 digits) 2147483647 above))
