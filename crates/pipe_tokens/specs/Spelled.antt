-- How reserved words and marks are spelled.
use Rattle.std.specs.Prelude.{ℕ, List, [], ◌∷◌, Option, find, codes}
use Rattle.std.specs.List.{starts_with}
use Rattle.std.specs.Prelude.{nat_eq}
use Rattle.std.specs.Str.{bytes_eq}
use Rattle.pipe_tokens.specs.declared.token.Keyword.{Keyword}
use Rattle.pipe_tokens.specs.declared.token.Keyword.TheVariants as words
use Rattle.pipe_tokens.specs.declared.token.Punct.{Punct}
use Rattle.pipe_tokens.specs.declared.token.Punct.TheVariants as marks

unfoldable pub bytes_of_word : Keyword → List ℕ
bytes_of_word words.Param = codes "param"
bytes_of_word words.Image = codes "image"
bytes_of_word words.Func = codes "func"
bytes_of_word words.In = codes "in"
bytes_of_word words.Case = codes "case"
bytes_of_word words.Else = codes "else"
bytes_of_word words.Accum = codes "accum"
bytes_of_word words.Over = codes "over"
bytes_of_word words.Sum = codes "sum"
bytes_of_word words.Min = codes "min"
bytes_of_word words.Max = codes "max"
bytes_of_word words.At = codes "at"
bytes_of_word words.Output = codes "output"
bytes_of_word words.And = codes "and"
bytes_of_word words.Abs = codes "abs"
bytes_of_word words.Clamp = codes "clamp"
bytes_of_word words.Select = codes "select"
bytes_of_word words.Stencil = codes "stencil"
bytes_of_word words.Table = codes "table"

abbrev pub all_words : List Keyword
all_words =
    words.Param ∷ words.Image ∷ words.Func ∷ words.In ∷ words.Case ∷ words.Else ∷ words.Accum ∷ words.Over ∷ words.Sum ∷ words.Min
    ∷ words.Max ∷ words.At ∷ words.Output ∷ words.And ∷ words.Abs ∷ words.Clamp ∷ words.Select ∷ words.Stencil ∷ words.Table ∷ []

-- the reserved word that the bytes spell
abbrev pub word_of : List ℕ → Option Keyword
word_of bytes = find (λ word. bytes_eq (bytes_of_word word) bytes) all_words

unfoldable pub bytes_of_mark : Punct → List ℕ
bytes_of_mark marks.OpenRound = codes "("
bytes_of_mark marks.CloseRound = codes ")"
bytes_of_mark marks.OpenSquare = codes "["
bytes_of_mark marks.CloseSquare = codes "]"
bytes_of_mark marks.OpenCurly = codes "{"
bytes_of_mark marks.CloseCurly = codes "}"
bytes_of_mark marks.Comma = codes ","
bytes_of_mark marks.Semicolon = codes ";"
bytes_of_mark marks.Colon = codes ":"
bytes_of_mark marks.Plus = codes "+"
bytes_of_mark marks.Minus = codes "-"
bytes_of_mark marks.Star = codes "*"
bytes_of_mark marks.Slash = codes "/"
bytes_of_mark marks.Percent = codes "%"
bytes_of_mark marks.ShiftLeft = codes "<<"
bytes_of_mark marks.ShiftRight = codes ">>"
bytes_of_mark marks.AtMost = codes "<="
bytes_of_mark marks.AtLeast = codes ">="
bytes_of_mark marks.Equals = codes "=="
bytes_of_mark marks.DotDot = codes ".."

abbrev pub all_marks : List Punct
all_marks =
    marks.OpenRound ∷ marks.CloseRound ∷ marks.OpenSquare ∷ marks.CloseSquare ∷ marks.OpenCurly ∷ marks.CloseCurly ∷ marks.Comma
    ∷ marks.Semicolon ∷ marks.Colon ∷ marks.Plus ∷ marks.Minus ∷ marks.Star ∷ marks.Slash ∷ marks.Percent ∷ marks.ShiftLeft
    ∷ marks.ShiftRight ∷ marks.AtMost ∷ marks.AtLeast ∷ marks.Equals ∷ marks.DotDot ∷ []

-- the mark that a text begins with. None is a prefix of another, so that there is at most one
abbrev pub mark_at : List ℕ → Option Punct
mark_at text = find (λ mark. starts_with nat_eq text (bytes_of_mark mark)) all_marks
