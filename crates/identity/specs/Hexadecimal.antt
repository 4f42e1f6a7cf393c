-- Bytes in hexadecimal digits.
use Rattle.std.specs.Prelude.{ℕ, ◌+◌, ◌/◌, ◌%◌, nat_lt, if◌then◌else◌, List, [], ◌∷◌, flat_map}

-- `0` to `9` and `a` to `f`
abbrev pub hex_digit : ℕ → ℕ
hex_digit n = if nat_lt n 10 then 48 + n else 87 + n

-- two digits for each byte
abbrev pub hex_byte : ℕ → List ℕ
hex_byte byte = hex_digit (byte / 16) ∷ hex_digit (byte % 16) ∷ []

abbrev pub hex_text : List ℕ → List ℕ
hex_text bytes = flat_map hex_byte bytes
