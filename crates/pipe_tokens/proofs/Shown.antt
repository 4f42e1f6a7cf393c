-- A name is ASCII text.
use Rattle.std.proofs.Common.{◌≡◌, ℕ, suc, zero, ◌<◌, ◌≤◌, inl, inr, eqb, ◌||◌, true, List, [], ◌∷◌, refl, arith}
use Rattle.std.specs.Prelude.{IsTrue, slice_index}
use Rattle.std.specs.List.{list_all}
use Rattle.std.specs.Char.{is_ascii_alphabetic}
use Rattle.std.specs.Str.{IsUtf8}
use Rattle.std.proofs.lemmas.Bool.{and_parts, or_cases, leb-true, eqb-true}
use Rattle.std.specs.Int.{is_in_range}
use Rattle.std.proofs.lemmas.Str.{IsUtf8-from_ascii}
use Rattle.pipe_tokens.specs.Character.{is_name_byte}
use Rattle.pipe_tokens.specs.Naming.{is_identifier, is_identifier_of_name_length}
use Rattle.pipe_tokens.proofs.Characters.{letter_in_name}

range_below : (lo hi b : ℕ) → is_in_range lo hi b ≡ true → b ≤ hi
range_below lo hi b e = leb-true _ _ (and_parts _ _ e).1

name_byte_low : (b : ℕ) → is_name_byte b ≡ true → b < 128
name_byte_low b h = elim (or_cases ((is_in_range 48 57 b || is_in_range 65 90 b) || is_in_range 97 122 b) (eqb b 95) h) [
  | inl a ↦ elim (or_cases (is_in_range 48 57 b || is_in_range 65 90 b) (is_in_range 97 122 b) a) [
    | inl c ↦ elim (or_cases (is_in_range 48 57 b) (is_in_range 65 90 b) c) [
      | inl d ↦ omega (arith, range_below 48 57 b d)
      | inr d ↦ omega (arith, range_below 65 90 b d)
    ]
    | inr c ↦ omega (arith, range_below 97 122 b c)
  ]
  | inr a ↦ omega (arith, eqb-true b 95 a)
]

bytes_low : (bytes : List ℕ) → list_all is_name_byte bytes ≡ true → (i : ℕ) → slice_index bytes i < 128
bytes_low [] h i = omega arith
bytes_low (b ∷ bytes) h zero = name_byte_low b (and_parts (is_name_byte b) (list_all is_name_byte bytes) h).0
bytes_low (b ∷ bytes) h (suc i) = bytes_low bytes (and_parts (is_name_byte b) (list_all is_name_byte bytes) h).1 i

identifier_low : (bytes : List ℕ) → is_identifier bytes ≡ true → (i : ℕ) → slice_index bytes i < 128
identifier_low [] h i = absurd (cc)
identifier_low (b ∷ bytes) h zero = name_byte_low b (letter_in_name b (and_parts (is_ascii_alphabetic b) (list_all is_name_byte bytes) h).0)
identifier_low (b ∷ bytes) h (suc i) = bytes_low bytes (and_parts (is_ascii_alphabetic b) (list_all is_name_byte bytes) h).1 i

pub name_is_text : (bytes : List ℕ) → IsTrue (is_identifier_of_name_length bytes) → IsUtf8 bytes
name_is_text bytes h = IsUtf8-from_ascii bytes (identifier_low bytes (and_parts (is_identifier bytes) _ h).0)
