-- A piece has a byte at least, and no more than there are.
use Rattle.std.proofs.Common.{◌≡◌, ℕ, ◌+◌, ◌<◌, ◌≤◌, Bool, true, false, cond, List, [], ◌∷◌, ◌++◌, length, drop, Option, Some}
use Rattle.std.proofs.Common.{None, refl, sym, ap, subst, arith}
use Rattle.std.specs.Prelude.{nat_eq, unwrap_or}
use Rattle.std.specs.Option.{option_map}
use Rattle.std.specs.List.{prefix_len, find, starts_with}
use Rattle.std.specs.Char.{is_ascii_digit}
use Rattle.std.proofs.lemmas.Bool.{cond_both, cond-true}
use Rattle.std.proofs.lemmas.Bool.Decides.{Decides-eqb}
use Rattle.std.proofs.lemmas.List.{length-append}
use Rattle.std.proofs.lemmas.List.Sums.{prefix_len-le-length}
use Rattle.std.proofs.lemmas.Slice.Eq.{starts_is}
use Rattle.pipe_tokens.specs.declared.token.Token.TheVariants as tokens
use Rattle.pipe_tokens.specs.declared.token.Punct.{Punct}
use Rattle.pipe_tokens.specs.declared.piece.Piece.{Piece}
use Rattle.pipe_tokens.proofs.Symbols.{mark_len}
use Rattle.pipe_tokens.proofs.Characters.{letter_in_name}
use Rattle.pipe_tokens.proofs.PieceKinds.{Kind, at_white, at_comment, at_letter, at_digit, at_not_ascii, at_other, kind_of}
use Rattle.pipe_tokens.specs.Character.{is_comment_byte, is_name_byte}
use Rattle.pipe_tokens.specs.Spelled.{bytes_of_mark, all_marks, mark_at}
use Rattle.pipe_tokens.specs.Lexing.{lexeme, piece_of}

-- what is found passes the test
pub find_passes : {X : Type 0} (p : X → Bool) (xs : List X) (x : X) → find p xs ≡ Some x → p x ≡ true
find_passes p [] x e = absurd cc
find_passes {X} p (y ∷ ys) x e =
    cond_both (p y) (Some y) (find p ys)
    (λ (o : Option X). o ≡ Some x → (p y ≡ true → o ≡ Some y) → (p y ≡ false → o ≡ find p ys) → p x ≡ true)
    (λ yes is first others. let same : y ≡ x = cc in subst (λ (z : X). p z ≡ true) same yes)
    (λ no is first others. find_passes p ys x is)
    e (λ yes. cond-true (p y) (Some y) (find p ys) yes) (λ no. ap (λ (b : Bool). cond b (Some y) (find p ys)) no)

-- a text begins with the mark that is found there
pub mark_stands : (text : List ℕ) (mark : Punct) → mark_at text ≡ Some mark
    → text ≡ bytes_of_mark mark ++ drop (length (bytes_of_mark mark)) text
mark_stands text mark e =
    (starts_is Decides-eqb text (bytes_of_mark mark) (starts_with nat_eq text (bytes_of_mark mark)) refl).0
    (find_passes (λ (m : Punct). starts_with nat_eq text (bytes_of_mark m)) all_marks mark e)

-- a byte at least, and no more than there are
abbrev pub Fits : List ℕ → Piece → Type 0
Fits text piece = (0 < piece.len) × (piece.len ≤ length text)

run_starts : (p : ℕ → Bool) (b : ℕ) (text : List ℕ) → p b ≡ true → 0 < prefix_len p (b ∷ text)
run_starts p b text e = let run = cond-true (p b) (1 + prefix_len p text) 0 e in omega arith

mark_fits : (text : List ℕ) (found : Option Punct) → mark_at text ≡ found → 0 < length text
    → Fits text
    (unwrap_or (option_map (λ (mark : Punct). lexeme (tokens.Punct mark) (length (bytes_of_mark mark))) found) (lexeme tokens.Bad 1))
mark_fits text None e some = (omega arith, omega arith)
mark_fits text (Some mark) e some = (
  mark_len mark,
  omega (arith, ap length (mark_stands text mark e), length-append (bytes_of_mark mark) (drop (length (bytes_of_mark mark)) text)),
)

kind_fits : (b : ℕ) (bytes : List ℕ) (piece : Piece) → Kind b (b ∷ bytes) piece → Fits (b ∷ bytes) piece
kind_fits b bytes _ (at_white e) = (omega arith, omega arith)
kind_fits b bytes _ (at_comment e) = (
  run_starts is_comment_byte b bytes (subst (λ (c : ℕ). is_comment_byte c ≡ true) (sym e) refl),
  prefix_len-le-length is_comment_byte (b ∷ bytes),
)
kind_fits b bytes _ (at_letter e) = (run_starts is_name_byte b bytes (letter_in_name b e), prefix_len-le-length is_name_byte (b ∷ bytes))
kind_fits b bytes _ (at_digit e) = (run_starts is_ascii_digit b bytes e, prefix_len-le-length is_ascii_digit (b ∷ bytes))
kind_fits b bytes _ (at_not_ascii e) = (omega arith, omega arith)
kind_fits b bytes _ (at_other e) = mark_fits (b ∷ bytes) (mark_at (b ∷ bytes)) refl (omega arith)

pub piece_fits : (text : List ℕ) → 0 < length text → Fits text (piece_of text)
unfolding piece_of
piece_fits [] some = absurd (omega arith)
piece_fits (b ∷ bytes) some = kind_fits b bytes _ (kind_of b (b ∷ bytes))
