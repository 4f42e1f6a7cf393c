-- How a text is cut into its longest tokens.
use Rattle.std.specs.Prelude.{ℕ, zero, suc, ◌-◌, Bool, true, false, ◌==◌, nat_le, List, [], ◌∷◌, length, map, take_while}
use Rattle.std.specs.Prelude.{slice_index, Option, Some, None, unwrap_or, if◌then◌else◌}
use Rattle.std.specs.List.{prefix_len}
use Rattle.std.specs.Option.{option_map}
use Rattle.std.specs.Char.{is_ascii_alphabetic, is_ascii_digit}
use Rattle.std.specs.Str.Parse.{digits_value}
use Rattle.pipe_tokens.specs.declared.token.Token.{Token}
use Rattle.pipe_tokens.specs.declared.token.Token.TheVariants as tokens
use Rattle.pipe_tokens.specs.declared.piece.Piece.{Piece}
use Rattle.pipe_tokens.specs.Character.{is_white, is_comment_byte, is_name_byte}
use Rattle.pipe_tokens.specs.Naming.{is_identifier_of_name_length}
use Rattle.pipe_tokens.specs.Spelled.{bytes_of_mark, word_of, mark_at}

abbrev pub gap : ℕ → Piece
gap len = record { token = None; len = len }

abbrev pub lexeme : Token → ℕ → Piece
lexeme token len = record { token = Some token; len = len }

-- the token of letters, digits and `_`: a reserved word, else a name, if they are few enough
abbrev pub token_of_word : List ℕ → Token
token_of_word bytes = unwrap_or (option_map tokens.Keyword (word_of bytes)) (if is_identifier_of_name_length bytes then tokens.Name bytes else tokens.Bad)

-- the token of digits: their value, if it is small enough
abbrev pub token_of_digits : List ℕ → Token
token_of_digits digits = if nat_le (digits_value 10 digits) 2147483647 then tokens.Int (digits_value 10 digits) else tokens.TooBig

abbrev pub word_piece : List ℕ → Piece
word_piece text = lexeme (token_of_word (take_while is_name_byte text)) (prefix_len is_name_byte text)

-- digits, with no letter or `_` directly after them
abbrev pub digits_piece : List ℕ → Piece
digits_piece text =
    lexeme (if prefix_len is_name_byte text == prefix_len is_ascii_digit text then token_of_digits (take_while is_ascii_digit text)
    else tokens.Bad) (prefix_len is_ascii_digit text)

abbrev pub mark_piece : List ℕ → Piece
mark_piece text =
    unwrap_or (option_map (λ mark. lexeme (tokens.Punct mark) (length (bytes_of_mark mark))) (mark_at text)) (lexeme tokens.Bad 1)

-- the longest piece at the front of a text whose first byte is given. A comment begins with `#`
abbrev pub piece_from : ℕ → List ℕ → Piece
piece_from first text =
    if is_white first then gap 1
    else (if first == 35 then gap (prefix_len is_comment_byte text)
    else (if is_ascii_alphabetic first then word_piece text
    else (if is_ascii_digit first then digits_piece text
    else (if nat_le 128 first then lexeme tokens.NotAscii 1
    else mark_piece text))))

-- the longest piece at the front of a text that is not empty
unfoldable pub piece_of : List ℕ → Piece
piece_of text = piece_from (slice_index text 0) text

-- a token, and the offset of its first byte
pub record Lexeme : Type 0 where
  pub token : Token
  pub start : ℕ

-- lexing ends at a lexical fault
abbrev pub is_fault : Token → Bool
is_fault tokens.Bad = true
is_fault tokens.NotAscii = true
is_fault _ = false

-- the lexemes from a piece on, which is a gap or a token
abbrev pub lexemes_with : ℕ → Option Token → List Lexeme → List Lexeme
lexemes_with start None later = later
lexemes_with start (Some token) later = record { token = token; start = start } ∷ (if is_fault token then [] else later)

-- the lexemes of a text at an offset, of which the first bytes belong to the piece before
unfoldable pub lexemes_from : (offset taken : ℕ) → List ℕ → List Lexeme
lexemes_from offset taken [] = []
lexemes_from offset (suc taken) (b ∷ text) = lexemes_from (suc offset) taken text
lexemes_from offset zero (b ∷ text) =
    let piece = piece_of (b ∷ text) in lexemes_with offset piece.token (lexemes_from (suc offset) (piece.len - 1) text)

abbrev pub lexemes_of : List ℕ → List Lexeme
lexemes_of text = lexemes_from 0 0 text

-- the tokens of a text
abbrev pub tokens_of : List ℕ → List Token
tokens_of text = map (λ lexeme. lexeme.token) (lexemes_of text)

-- where each of them starts
abbrev pub starts_of : List ℕ → List ℕ
starts_of text = map (λ lexeme. lexeme.start) (lexemes_of text)
