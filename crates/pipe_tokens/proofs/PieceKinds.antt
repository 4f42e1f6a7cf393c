-- The kinds of pieces, by the first byte of a text.
use Rattle.std.proofs.Common.{◌≡◌, ℕ, ◌<◌, ◌≤◌, true, false, eqb, leb, List}
use Rattle.std.specs.List.{prefix_len}
use Rattle.std.specs.Char.{is_ascii_alphabetic, is_ascii_digit}
use Rattle.std.proofs.lemmas.Bool.{cond_both, eqb-true, eqb-false, leb-true, leb-false}
use Rattle.pipe_tokens.specs.declared.token.Token.TheVariants as tokens
use Rattle.pipe_tokens.specs.declared.piece.Piece.{Piece}
use Rattle.pipe_tokens.specs.Character.{is_white, is_comment_byte}
use Rattle.pipe_tokens.specs.Lexing.{gap, lexeme, word_piece, digits_piece, mark_piece, piece_from}

-- a byte with which neither a gap nor a name nor a number begins
pub record IsOther (first : ℕ) : Type 0 where
  pub white : is_white first ≡ false
  pub comment : first ≡ 35 → ⊥
  pub letter : is_ascii_alphabetic first ≡ false
  pub digit : is_ascii_digit first ≡ false
  pub ascii : first < 128

pub data Kind (first : ℕ) (text : List ℕ) : Piece → Type 0 where
  at_white : is_white first ≡ true → Kind first text (gap 1)
  at_comment : first ≡ 35 → Kind first text (gap (prefix_len is_comment_byte text))
  at_letter : is_ascii_alphabetic first ≡ true → Kind first text (word_piece text)
  at_digit : is_ascii_digit first ≡ true → Kind first text (digits_piece text)
  at_not_ascii : 128 ≤ first → Kind first text (lexeme tokens.NotAscii 1)
  at_other : IsOther first → Kind first text (mark_piece text)

pub kind_of : (first : ℕ) (text : List ℕ) → Kind first text (piece_from first text)
kind_of first text =
    let K : Piece → Type 0 = Kind first text in
    cond_both (is_white first) (gap 1) _ K at_white
    (λ no_white. cond_both (eqb first 35) (gap (prefix_len is_comment_byte text)) _ K (λ e. at_comment (eqb-true first 35 e))
    (λ no_comment. cond_both (is_ascii_alphabetic first) (word_piece text) _ K at_letter
    (λ no_letter. cond_both (is_ascii_digit first) (digits_piece text) _ K at_digit
    (λ no_digit. cond_both (leb 128 first) (lexeme tokens.NotAscii 1) (mark_piece text) K (λ e. at_not_ascii (leb-true 128 first e))
    (λ e. at_other (record {
      white =
          no_white;
      comment = eqb-false first 35 no_comment;
      letter = no_letter;
      digit = no_digit;
      ascii = leb-false 128 first e;
    }))))))
