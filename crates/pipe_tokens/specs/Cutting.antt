-- The longest tokens of a text, defined independently of how they are found.
use Rattle.std.specs.Prelude.{◌≡◌, ℕ, ◌+◌, ◌<◌, ◌≤◌, true, false, ◌⊎◌, List, [], ◌∷◌, ◌++◌, length, MatchBool}
use Rattle.std.specs.List.{prefix_len, list_all}
use Rattle.std.specs.Char.{is_ascii_digit}
use Rattle.std.specs.Str.Parse.{digits_value}
use Rattle.pipe_tokens.specs.declared.token.Token.{Token}
use Rattle.pipe_tokens.specs.declared.token.Token.TheVariants as tokens
use Rattle.pipe_tokens.specs.Character.{is_white, is_comment_byte, is_name_byte}
use Rattle.pipe_tokens.specs.Naming.{is_identifier}
use Rattle.pipe_tokens.specs.Spelled.{bytes_of_word, bytes_of_mark}
use Rattle.pipe_tokens.specs.Spelling.{HasSpelling}
use Rattle.pipe_tokens.specs.Lexing.{is_fault}

-- one or more digits
pub record IsDigits (bytes : List ℕ) : Type 0 where
  pub some : 0 < length bytes
  pub digits : list_all is_ascii_digit bytes ≡ true

-- which bytes are a token. Leading zeros are accepted
abbrev pub Spells : Token → List ℕ → Type 0
Spells (tokens.Keyword word) bytes = bytes ≡ bytes_of_word word
Spells (tokens.Punct mark) bytes = bytes ≡ bytes_of_mark mark
Spells (tokens.Name name) bytes = HasSpelling (tokens.Name name) × (bytes ≡ name)
Spells (tokens.Int value) bytes = IsDigits bytes × (digits_value 10 bytes ≡ value) × (value ≤ 2147483647)
Spells tokens.TooBig bytes = IsDigits bytes × (2147483647 < digits_value 10 bytes)
Spells tokens.Bad bytes = ⊥
Spells tokens.NotAscii bytes = ⊥

-- white space and comments, in any mix, before the rest of a text. A comment begins with `#` and ends before an LF, a byte of 128
-- or more, or the end
pub data Gap (rest : List ℕ) : List ℕ → Type 0 where
  nothing : Gap rest []
  white : (b : ℕ) (gap : List ℕ) → is_white b ≡ true → Gap rest gap → Gap rest (b ∷ gap)
  comment : (body gap : List ℕ) → list_all is_comment_byte body ≡ true → prefix_len is_comment_byte (gap ++ rest) ≡ 0 → Gap rest gap
      → Gap rest (35 ∷ (body ++ gap))

-- bytes that are a token, and no longer part of the text is one. No letter, digit or `_` comes directly after a name, a reserved
-- word or a number
pub record IsLongest (token : Token) (lexeme rest : List ℕ) : Type 0 where
  pub spelled : Spells token lexeme
  pub longest : (other : Token) (front back : List ℕ) → lexeme ++ rest ≡ front ++ back → Spells other front → length front ≤ length lexeme
  pub parted : 0 < prefix_len is_name_byte lexeme → prefix_len is_name_byte rest ≡ 0

-- an ASCII byte with which no token, no white space and no comment begins
pub record BeginsNothing (text : List ℕ) : Type 0 where
  pub first : ℕ
  pub others : List ℕ
  pub parts : text ≡ first ∷ others
  pub ascii : first < 128
  pub no_gap : (is_white first ≡ false) × (first ≡ 35 → ⊥)
  pub no_token : (other : Token) (front back : List ℕ) → text ≡ front ++ back → Spells other front → ⊥

-- a name of more than 32 bytes
pub record BeginsLongName (text : List ℕ) : Type 0 where
  pub name : List ℕ
  pub others : List ℕ
  pub parts : text ≡ name ++ others
  pub named : is_identifier name ≡ true
  pub long : 32 < length name

-- digits with a letter or `_` directly after them
pub record BeginsDigitsAndLetter (text : List ℕ) : Type 0 where
  pub digits : List ℕ
  pub letter : ℕ
  pub others : List ℕ
  pub parts : text ≡ digits ++ letter ∷ others
  pub are_digits : IsDigits digits
  pub is_letter : (is_name_byte letter ≡ true) × (is_ascii_digit letter ≡ false)

pub record BeginsNotAscii (text : List ℕ) : Type 0 where
  pub first : ℕ
  pub others : List ℕ
  pub parts : text ≡ first ∷ others
  pub above : 128 ≤ first

-- the bytes of a token at its place, and the rest. A fault has no bytes of its own
abbrev pub StandsAt : Token → List ℕ → List ℕ → Type 0
StandsAt tokens.Bad lexeme rest = (lexeme ≡ []) × (BeginsNothing rest ⊎ (BeginsLongName rest ⊎ BeginsDigitsAndLetter rest))
StandsAt tokens.NotAscii lexeme rest = (lexeme ≡ []) × BeginsNotAscii rest
StandsAt token lexeme rest = IsLongest token lexeme rest

-- a text at an offset is a gap, then a token that starts at `start`, then the rest
pub record Begins (offset : ℕ) (text : List ℕ) (token : Token) (start : ℕ) (lexeme rest : List ℕ) : Type 0 where
  pub gap : List ℕ
  pub parts : text ≡ gap ++ (lexeme ++ rest)
  pub is_gap : Gap (lexeme ++ rest) gap
  pub start_is : start ≡ offset + length gap
  pub stands : StandsAt token lexeme rest

-- the tokens of a text at an offset, and their starts: gap, token, gap, token .., gap. A lexical fault is the last token
abbrev pub CutsInto : ℕ → List ℕ → List Token → List ℕ → Type 0
CutsInto offset text [] [] = Gap [] text
CutsInto offset text [] (start ∷ starts) = ⊥
CutsInto offset text (token ∷ tokens) [] = ⊥
CutsInto offset text (token ∷ tokens) (start ∷ starts) =
    (lexeme : List ℕ) × (rest : List ℕ) × Begins offset text token start lexeme rest
    × MatchBool (is_fault token) ((tokens ≡ []) × (starts ≡ [])) (CutsInto (start + length lexeme) rest tokens starts)
