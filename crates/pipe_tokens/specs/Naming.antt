-- The names of a text.
use Rattle.std.specs.Prelude.{◌≡◌, ℕ, ◌≤◌, ◌-◌, Bool, false, ◌&&◌, nat_le, List, [], ◌∷◌, length, take, drop, replicate, IsTrue}
use Rattle.std.specs.List.{list_all}
use Rattle.std.specs.Char.{is_ascii_alphabetic}
use Rattle.pipe_tokens.specs.Character.{is_name_byte}

-- a letter, then letters, digits and `_`
abbrev pub is_identifier : List ℕ → Bool
is_identifier [] = false
is_identifier (b ∷ bytes) = is_ascii_alphabetic b && list_all is_name_byte bytes

-- an identifier of at most 32 bytes
abbrev pub is_identifier_of_name_length : List ℕ → Bool
is_identifier_of_name_length bytes = is_identifier bytes && nat_le (length bytes) 32

-- 32 bytes of which the first are a name, and the others 0
pub record HoldsName (bytes : List ℕ) (len : ℕ) : Type 0 where
  pub width : length bytes ≡ 32
  pub fits : len ≤ 32
  pub name : IsTrue (is_identifier_of_name_length (take len bytes))
  pub padded : drop len bytes ≡ replicate (32 - len) 0
