-- Lines that are hexadecimal digits.
use Rattle.std.proofs.Common.{◌≡◌, ◌<◌, ◌%◌, ℕ, Bool, true, false, List, length, get_or, refl, sym, ◌∙◌, arith}
use Rattle.std.specs.Prelude.{◌↔◌, IsTrue}
use Rattle.std.specs.Bool.{MatchBool}
use Rattle.std.specs.Char.{is_ascii_hexdigit}
use Rattle.std.specs.List.{AllWithin, HoldsAt}
use Rattle.std.proofs.lemmas.Grind.{common_steps}
use Rattle.hex.specs.Hex.{is_hex_digit}
use Rattle.hex.proofs.HexLemmas.{decode_of-digits, decode_of-ok}
use Rattle.fact_lines.specs.Texts.{IsDigitsOf}

pub same_digit : (c : ℕ) → is_ascii_hexdigit c ≡ is_hex_digit c
same_digit c = grind (arith, common_steps)

abbrev pub HaveBytes : List ℕ → Type 0
HaveBytes line = (bytes : List ℕ) × IsDigitsOf line bytes

pub digits_are : (line : List ℕ) (all : Bool) → length line % 2 ≡ 0
    → MatchBool all (AllWithin (λ c. is_ascii_hexdigit c ≡ true) line 0 (length line))
    ((k : ℕ) × (k < length line) × HoldsAt (λ c. is_ascii_hexdigit c ≡ false) line k)
    → IsTrue all ↔ HaveBytes line
digits_are line true even passes =
    ((λ _. decode_of-digits line even (λ k d below. sym (same_digit (get_or line k d)) ∙ passes k d (omega arith) below)), (λ _. refl))
digits_are line false even fails = (
  (λ is. cc),
  λ has. let one = same_digit (get_or line fails.0 0) ∙ (decode_of-ok line has.0 has.1).1 fails.0 0 fails.1 in let none = fails.2 0 in cc,
)

pub odd_has_none : (line : List ℕ) → 0 < length line % 2 → ¬ HaveBytes line
odd_has_none line odd has = let even = (decode_of-ok line has.0 has.1).0 in omega arith
