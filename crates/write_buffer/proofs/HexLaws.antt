-- Hexadecimal digits of bytes in several parts.
use Rattle.std.proofs.Common.{◌≡◌, ◌++◌, ◌/◌, ◌%◌, ℕ, List, [], ◌∷◌, Option, Result, refl, sym, ap, subst, slice_index, ◌∙◌}
use Rattle.std.specs.List.{flat_map}
use Rattle.hex.specs.Hex.{encode_lower, encode_with, lower_digits}
use Rattle.write_buffer.specs.Passing.{Breaks, Passes, Puts}
use Rattle.write_buffer.proofs.PassingLaws.{breaks_front, puts_then}

pub lower_none : encode_lower [] ≡ []
unfolding encode_with
lower_none = refl

encode_both : (table front back : List ℕ) → encode_with table (front ++ back) ≡ encode_with table front ++ encode_with table back
unfolding encode_with
encode_both table [] back = refl
encode_both table (byte ∷ front) back =
    ap (λ digits. slice_index table (byte / 16) ∷ slice_index table (byte % 16) ∷ digits) (encode_both table front back)

-- the digits of two parts
pub lower_both : (front back : List ℕ) → encode_lower (front ++ back) ≡ encode_lower front ++ encode_lower back
lower_both front back = encode_both lower_digits front back

-- the digits of each byte
pub lower_each : (bytes : List ℕ) → encode_lower bytes ≡ flat_map (λ byte. encode_lower (byte ∷ [])) bytes
unfolding encode_with
lower_each [] = refl
lower_each (byte ∷ bytes) =
    ap (λ digits. slice_index lower_digits (byte / 16) ∷ slice_index lower_digits (byte % 16) ∷ digits) (lower_each bytes)

-- the digits of all parts
pub lower_all : {X : Type 0} (f : X → List ℕ) (xs : List X) → encode_lower (flat_map f xs) ≡ flat_map (λ x. encode_lower (f x)) xs
lower_all f [] = lower_none
lower_all f (x ∷ xs) = lower_both (f x) (flat_map f xs) ∙ ap (λ digits. encode_lower (f x) ++ digits) (lower_all f xs)

-- ---- digits that are put in two parts

pub puts_digits_then : {X E : Type 0} (r : Result X E) (front back was mid waits : List ℕ) (a b c : Option (List ℕ)) (n m k : ℕ)
    → Passes (encode_lower front) was mid a b n m → Puts r (encode_lower back) mid waits b c m k
    → Puts r (encode_lower (front ++ back)) was waits a c n k
puts_digits_then r front back was mid waits a b c n m k first second =
    subst (λ digits. Puts r digits was waits a c n k) (sym (lower_both front back))
    (puts_then r (encode_lower front) (encode_lower back) was mid waits a b c n m k first second)

pub breaks_digits_front : (front back was : List ℕ) (a b : Option (List ℕ)) (n m : ℕ) → Breaks (encode_lower front) was a b n m
    → Breaks (encode_lower (front ++ back)) was a b n m
breaks_digits_front front back was a b n m first =
    subst (λ digits. Breaks digits was a b n m) (sym (lower_both front back))
    (breaks_front (encode_lower front) (encode_lower back) was a b n m first)
