-- Reserved words and marks.
use Rattle.std.proofs.Common.{◌≡◌, ℕ, ◌<◌, ◌≤◌, true, List, ◌++◌, length, Some, refl, arith}
use Rattle.std.specs.List.{prefix_len}
use Rattle.pipe_tokens.specs.declared.token.Token.TheVariants as tokens
use Rattle.pipe_tokens.specs.declared.token.Keyword.{Keyword}
use Rattle.pipe_tokens.specs.declared.token.Punct.{Punct}
use Rattle.pipe_tokens.specs.declared.token.Punct.TheVariants as marks
use Rattle.pipe_tokens.specs.Character.{is_name_byte}
use Rattle.pipe_tokens.specs.Naming.{is_identifier}
use Rattle.pipe_tokens.specs.Spelled.{bytes_of_word, word_of, bytes_of_mark}
use Rattle.pipe_tokens.specs.Lexing.{lexeme, piece_of}

-- a reserved word is an identifier
pub word_is_identifier : (word : Keyword) → is_identifier (bytes_of_word word) ≡ true
unfolding bytes_of_word
word_is_identifier word = grind arith

-- no two are spelled alike
pub word_of-bytes_of_word : (word : Keyword) → word_of (bytes_of_word word) ≡ Some word
unfolding bytes_of_word
word_of-bytes_of_word word = grind arith

-- none is as long as the longest name
pub word_short : (word : Keyword) → length (bytes_of_word word) ≤ 7
unfolding bytes_of_word
word_short word = grind arith

pub mark_len : (mark : Punct) → 0 < length (bytes_of_mark mark)
unfolding bytes_of_mark
mark_len marks.OpenRound = omega arith
mark_len marks.CloseRound = omega arith
mark_len marks.OpenSquare = omega arith
mark_len marks.CloseSquare = omega arith
mark_len marks.OpenCurly = omega arith
mark_len marks.CloseCurly = omega arith
mark_len marks.Comma = omega arith
mark_len marks.Semicolon = omega arith
mark_len marks.Colon = omega arith
mark_len marks.Plus = omega arith
mark_len marks.Minus = omega arith
mark_len marks.Star = omega arith
mark_len marks.Slash = omega arith
mark_len marks.Percent = omega arith
mark_len marks.ShiftLeft = omega arith
mark_len marks.ShiftRight = omega arith
mark_len marks.AtMost = omega arith
mark_len marks.AtLeast = omega arith
mark_len marks.Equals = omega arith
mark_len marks.DotDot = omega arith

-- a text that begins with a mark has it as its first piece
pub mark_is_piece : (mark : Punct) (rest : List ℕ)
    → piece_of (bytes_of_mark mark ++ rest) ≡ lexeme (tokens.Punct mark) (length (bytes_of_mark mark))
unfolding bytes_of_mark piece_of
mark_is_piece marks.OpenRound rest = refl
mark_is_piece marks.CloseRound rest = refl
mark_is_piece marks.OpenSquare rest = refl
mark_is_piece marks.CloseSquare rest = refl
mark_is_piece marks.OpenCurly rest = refl
mark_is_piece marks.CloseCurly rest = refl
mark_is_piece marks.Comma rest = refl
mark_is_piece marks.Semicolon rest = refl
mark_is_piece marks.Colon rest = refl
mark_is_piece marks.Plus rest = refl
mark_is_piece marks.Minus rest = refl
mark_is_piece marks.Star rest = refl
mark_is_piece marks.Slash rest = refl
mark_is_piece marks.Percent rest = refl
mark_is_piece marks.ShiftLeft rest = refl
mark_is_piece marks.ShiftRight rest = refl
mark_is_piece marks.AtMost rest = refl
mark_is_piece marks.AtLeast rest = refl
mark_is_piece marks.Equals rest = refl
mark_is_piece marks.DotDot rest = refl

-- no name goes on with a mark
pub mark_stops : (mark : Punct) (rest : List ℕ) → prefix_len is_name_byte (bytes_of_mark mark ++ rest) ≡ 0
unfolding bytes_of_mark
mark_stops marks.OpenRound rest = refl
mark_stops marks.CloseRound rest = refl
mark_stops marks.OpenSquare rest = refl
mark_stops marks.CloseSquare rest = refl
mark_stops marks.OpenCurly rest = refl
mark_stops marks.CloseCurly rest = refl
mark_stops marks.Comma rest = refl
mark_stops marks.Semicolon rest = refl
mark_stops marks.Colon rest = refl
mark_stops marks.Plus rest = refl
mark_stops marks.Minus rest = refl
mark_stops marks.Star rest = refl
mark_stops marks.Slash rest = refl
mark_stops marks.Percent rest = refl
mark_stops marks.ShiftLeft rest = refl
mark_stops marks.ShiftRight rest = refl
mark_stops marks.AtMost rest = refl
mark_stops marks.AtLeast rest = refl
mark_stops marks.Equals rest = refl
mark_stops marks.DotDot rest = refl
