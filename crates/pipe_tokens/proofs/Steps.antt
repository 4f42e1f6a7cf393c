-- From one piece of a text to the next.
use Rattle.std.proofs.Common.{◌≡◌, ℕ, zero, suc, ◌+◌, ◌-◌, ◌<◌, ◌≤◌, Bool, true, false, cond, List, [], ◌∷◌, ◌++◌, length, drop}
use Rattle.std.proofs.Common.{map, Option, Some, None, refl, sym, ap, ◌∙◌, subst, arith, append_assoc, add-zero}
use Rattle.std.proofs.lemmas.List.{length-drop, drop-drop, drop_all, append-nil}
use Rattle.pipe_tokens.specs.declared.token.Token.{Token}
use Rattle.pipe_tokens.specs.declared.piece.Piece.{Piece}
use Rattle.pipe_tokens.specs.Lexing.{piece_of, Lexeme, is_fault, lexemes_with, lexemes_from}
use Rattle.pipe_tokens.proofs.Pieces.{piece_fits}

-- what belongs to the piece before is passed over
pub lexemes_from-taken : (offset taken : ℕ) (text : List ℕ)
    → lexemes_from offset taken text ≡ lexemes_from (offset + taken) 0 (drop taken text)
unfolding lexemes_from
lexemes_from-taken offset zero text = ap (λ (n : ℕ). lexemes_from n 0 text) (sym (add-zero offset))
lexemes_from-taken offset (suc taken) [] = refl
lexemes_from-taken offset (suc taken) (b ∷ text) =
    let moved : suc offset + taken ≡ offset + suc taken = omega arith in
    lexemes_from-taken (suc offset) taken text ∙ ap (λ (n : ℕ). lexemes_from n 0 (drop taken text)) moved

-- a text is its first piece and what stands behind it
pub lexemes_from-piece : (offset : ℕ) (text : List ℕ) → 0 < length text
    → lexemes_from offset 0 text
    ≡ lexemes_with offset (piece_of text).token (lexemes_from (offset + (piece_of text).len) 0 (drop (piece_of text).len text))
unfolding lexemes_from
lexemes_from-piece offset [] some = absurd (omega arith)
lexemes_from-piece offset (b ∷ text) some =
    let piece = piece_of (b ∷ text) in
    let fits = piece_fits (b ∷ text) some in
    let less : suc (piece.len - 1) ≡ piece.len = omega (arith, fits.0) in
    let moved : suc offset + (piece.len - 1) ≡ offset + piece.len = omega (arith, fits.0) in
    let behind : drop (piece.len - 1) text ≡ drop piece.len (b ∷ text) = ap (λ (n : ℕ). drop n (b ∷ text)) less in
    let later : lexemes_from (suc offset) (piece.len - 1) text ≡ lexemes_from (offset + piece.len) 0 (drop piece.len (b ∷ text)) =
    lexemes_from-taken (suc offset) (piece.len - 1) text ∙ ap (λ (n : ℕ). lexemes_from n 0 (drop (piece.len - 1) text)) moved
    ∙ ap (λ (t : List ℕ). lexemes_from (offset + piece.len) 0 t) behind in
    ap (lexemes_with offset piece.token) later

-- one turn of the lexer, at an offset of the text
pub record Turn (text : List ℕ) (at : ℕ) (piece : Piece) : Type 0 where
  pub some : 0 < piece.len
  pub within : at + piece.len ≤ length text
  pub next : lexemes_from at 0 (drop at text) ≡ lexemes_with at piece.token (lexemes_from (at + piece.len) 0 (drop (at + piece.len) text))

pub turn : (text : List ℕ) (at : ℕ) (piece : Piece) → at < length text → piece ≡ piece_of (drop at text) → Turn text at piece
turn text at piece lt e =
    let rest = drop at text in
    let len : length rest ≡ length text - at = length-drop at text in
    let some : 0 < length rest = omega arith in
    let fits = piece_fits rest some in
    let one : Turn text at (piece_of rest) = record {
      some = fits.0;
      within = omega (arith, fits.1);
      next =
          lexemes_from-piece at rest some
          ∙ ap (λ (t : List ℕ). lexemes_with at (piece_of rest).token (lexemes_from (at + (piece_of rest).len) 0 t))
          (drop-drop (piece_of rest).len at text);
    } in
    subst (Turn text at) (sym e) one

module _ {X : Type 0} (f : Lexeme → X) (text : List ℕ) (at : ℕ) (piece : Piece) (t : Turn text at piece) (front total : List X)
    (so_far : front ++ map f (lexemes_from at 0 (drop at text)) ≡ total) where
  at_turn : (o : Option Token) → piece.token ≡ o
      → front ++ map f (lexemes_with at o (lexemes_from (at + piece.len) 0 (drop (at + piece.len) text))) ≡ total
  at_turn o e =
      ap (λ (token : Option Token). front ++ map f (lexemes_with at token (lexemes_from (at + piece.len) 0 (drop (at + piece.len) text))))
      (sym e) ∙ ap (λ (ls : List Lexeme). front ++ map f ls) (sym t.next) ∙ so_far

  pub passes_gap : piece.token ≡ None → front ++ map f (lexemes_from (at + piece.len) 0 (drop (at + piece.len) text)) ≡ total
  passes_gap e = at_turn None e

  pub takes_token : (token : Token) → piece.token ≡ Some token → is_fault token ≡ false
      → (front ++ f (record { token = token; start = at }) ∷ []) ++ map f (lexemes_from (at + piece.len) 0 (drop (at + piece.len) text))
      ≡ total
  takes_token token e goes =
      let later = lexemes_from (at + piece.len) 0 (drop (at + piece.len) text) in
      let first : Lexeme = record { token = token; start = at } in
      append_assoc front (f first ∷ []) (map f later) ∙ ap (λ (b : Bool). front ++ map f (first ∷ cond b [] later)) (sym goes)
      ∙ at_turn (Some token) e

  pub ends_at_fault : (token : Token) → piece.token ≡ Some token → is_fault token ≡ true
      → front ++ f (record { token = token; start = at }) ∷ [] ≡ total
  ends_at_fault token e stops =
      let first : Lexeme = record { token = token; start = at } in
      ap (λ (b : Bool). front ++ map f (first ∷ cond b [] (lexemes_from (at + piece.len) 0 (drop (at + piece.len) text)))) (sym stops)
      ∙ at_turn (Some token) e

pub is_ended : {X : Type 0} (f : Lexeme → X) (text : List ℕ) (at : ℕ) (front total : List X) → length text ≤ at
    → front ++ map f (lexemes_from at 0 (drop at text)) ≡ total → front ≡ total
unfolding lexemes_from
is_ended {X} f text at front total le so_far =
    sym (append-nil front) ∙ ap (λ (t : List ℕ). front ++ map f (lexemes_from at 0 t)) (sym (drop_all at text le)) ∙ so_far
