-- The shortest text of some tokens.
use Rattle.std.specs.Prelude.{◌≡◌, ℕ, ◌≤◌, ◌&&◌, Bool, true, false, List, [], ◌∷◌, ◌++◌, None, if◌then◌else◌}
use Rattle.std.specs.Fmt.{decimal}
use Rattle.pipe_tokens.specs.declared.token.Token.{Token}
use Rattle.pipe_tokens.specs.declared.token.Token.TheVariants as tokens
use Rattle.pipe_tokens.specs.Naming.{is_identifier_of_name_length}
use Rattle.pipe_tokens.specs.Spelled.{bytes_of_word, bytes_of_mark, word_of}

-- the spelling of a token; a number without leading zeros
abbrev pub bytes_of : Token → List ℕ
bytes_of (tokens.Keyword word) = bytes_of_word word
bytes_of (tokens.Punct mark) = bytes_of_mark mark
bytes_of (tokens.Name name) = name
bytes_of (tokens.Int value) = decimal value
bytes_of _ = []

-- a token that begins with a letter or a digit
abbrev pub begins_word : Token → Bool
begins_word (tokens.Keyword word) = true
begins_word (tokens.Name name) = true
begins_word (tokens.Int value) = true
begins_word _ = false

-- the blank between a token and the next one, where both begin with a letter or a digit
abbrev pub blank_behind : Bool → List Token → List ℕ
blank_behind behind_word [] = []
blank_behind behind_word (token ∷ others) = if behind_word && begins_word token then 32 ∷ [] else []

-- the tokens one after another, with those blanks and nothing else
unfoldable pub spelling : List Token → List ℕ
spelling [] = []
spelling (token ∷ others) = bytes_of token ++ (blank_behind (begins_word token) others ++ spelling others)

-- what has a spelling: a name that is not reserved, a number up to 2147483647, a reserved word or a mark
abbrev pub HasSpelling : Token → Type 0
HasSpelling (tokens.Keyword word) = Unit {0}
HasSpelling (tokens.Punct mark) = Unit {0}
HasSpelling (tokens.Name name) = (is_identifier_of_name_length name ≡ true) × (word_of name ≡ None)
HasSpelling (tokens.Int value) = value ≤ 2147483647
HasSpelling _ = ⊥

-- what a text has: a token with a spelling, digits of a larger number, or a lexical fault
abbrev pub IsReadable : Token → Type 0
IsReadable tokens.TooBig = Unit {0}
IsReadable tokens.Bad = Unit {0}
IsReadable tokens.NotAscii = Unit {0}
IsReadable token = HasSpelling token
