-- A text is its gaps and its longest tokens.
use Rattle.std.proofs.Common.{◌≡◌, ℕ, zero, suc, ◌+◌, ◌<◌, ◌≤◌, Bool, true, false, cond, List, [], ◌∷◌, ◌++◌, length, take, drop}
use Rattle.std.proofs.Common.{map, Option, Some, None, refl, sym, ap, ◌∙◌, subst, arith, append_assoc, take-append-drop}
use Rattle.std.specs.Prelude.{MatchBool}
use Rattle.std.proofs.lemmas.List.{length-append, length-drop, length-take, append-nil}
use Rattle.pipe_tokens.specs.declared.token.Token.{Token}
use Rattle.pipe_tokens.specs.Lexing.{piece_of, Lexeme, is_fault, lexemes_with, lexemes_from, tokens_of, starts_of}
use Rattle.pipe_tokens.specs.Cutting.{Gap, nothing, Begins, StandsAt, CutsInto}
use Rattle.pipe_tokens.proofs.Pieces.{piece_fits}
use Rattle.pipe_tokens.proofs.Steps.{lexemes_from-piece}
use Rattle.pipe_tokens.proofs.Longest.{IfStands, stands, IfGap, gap_goes_on}

abbrev tokens_in : List Lexeme → List Token
tokens_in lexemes = map (λ (l : Lexeme). l.token) lexemes

abbrev starts_in : List Lexeme → List ℕ
starts_in lexemes = map (λ (l : Lexeme). l.start) lexemes

-- a gap's piece in front of a text that is cut
in_front : (offset : ℕ) (piece text whole : List ℕ) → whole ≡ piece ++ text
    → ((gap rest : List ℕ) → text ≡ gap ++ rest → Gap rest gap → Gap rest (piece ++ gap))
    → (ts : List Token) (ss : List ℕ) → CutsInto (offset + length piece) text ts ss → CutsInto offset whole ts ss
in_front offset piece text whole e goes [] [] h = subst (Gap []) (sym e) (goes text [] (sym (append-nil text)) h)
in_front offset piece text whole e goes [] (s ∷ ss) h = absurd h
in_front offset piece text whole e goes (t ∷ ts) [] h = absurd h
in_front offset piece text whole e goes (t ∷ ts) (s ∷ ss) h =
    let b = h.2 in
    let first : Begins offset whole t s h.0 h.1 = record {
      gap = piece ++ b.gap;
      parts = e ∙ ap (λ (x : List ℕ). piece ++ x) b.parts ∙ sym (append_assoc piece b.gap (h.0 ++ h.1));
      is_gap = goes b.gap (h.0 ++ h.1) b.parts b.is_gap;
      start_is = omega (arith, b.start_is, length-append piece b.gap);
      stands = b.stands;
    } in
    (h.0, h.1, first, h.3)

-- a token in front of a text that is cut
at_front : (offset n : ℕ) (text : List ℕ) (t : Token) (later : List Lexeme) → n ≤ length text
    → (is_fault t ≡ false → StandsAt t (take n text) (drop n text)) → (is_fault t ≡ true → StandsAt t [] text)
    → CutsInto (offset + n) (drop n text) (tokens_in later) (starts_in later)
    → (f : Bool) → is_fault t ≡ f → CutsInto offset text (t ∷ tokens_in (cond f [] later)) (offset ∷ starts_in (cond f [] later))
at_front offset n text t later le token fault h true e =
    let first : Begins offset text t offset [] text =
    record { gap = []; parts = refl; is_gap = nothing; start_is = omega arith; stands = fault e } in
    let ends : MatchBool true ((tokens_in [] ≡ []) × (starts_in [] ≡ [])) (CutsInto (offset + 0) text [] []) = (refl, refl) in (
      [],
      text,
      first,
      subst (λ (f : Bool). MatchBool f ((tokens_in [] ≡ []) × (starts_in [] ≡ [])) (CutsInto (offset + 0) text [] [])) (sym e) ends,
    )
at_front offset n text t later le token fault h false e =
    let first : Begins offset text t offset (take n text) (drop n text) =
    record { gap = []; parts = sym (take-append-drop n text); is_gap = nothing; start_is = omega arith; stands = token e } in
    let len : offset + n ≡ offset + length (take n text) = omega (arith, length-take n text) in
    let others : CutsInto (offset + length (take n text)) (drop n text) (tokens_in later) (starts_in later) =
    subst (λ (k : ℕ). CutsInto k (drop n text) (tokens_in later) (starts_in later)) len h in (
      take n text,
      drop n text,
      first,
      subst (λ (f : Bool). MatchBool f ((tokens_in later ≡ []) × (starts_in later ≡ []))
          (CutsInto (offset + length (take n text)) (drop n text) (tokens_in later) (starts_in later))) (sym e) others,
    )

at_piece : (offset n b : ℕ) (bytes : List ℕ) (o : Option Token) (later : List Lexeme) → n ≤ length (b ∷ bytes) → IfStands b bytes o n
    → IfGap b bytes o n
    → CutsInto (offset + n) (drop n (b ∷ bytes)) (tokens_in later) (starts_in later)
    → CutsInto offset (b ∷ bytes) (tokens_in (lexemes_with offset o later)) (starts_in (lexemes_with offset o later))
at_piece offset n b bytes None later le there goes h =
    let text = b ∷ bytes in
    let len : offset + n ≡ offset + length (take n text) = omega (arith, length-take n text) in
    in_front offset (take n text) (drop n text) text (sym (take-append-drop n text)) goes (tokens_in later) (starts_in later)
    (subst (λ (k : ℕ). CutsInto k (drop n text) (tokens_in later) (starts_in later)) len h)
at_piece offset n b bytes (Some t) later le there goes h = at_front offset n (b ∷ bytes) t later le there.0 there.1 h (is_fault t) refl

cut_within : (turns : ℕ) (text : List ℕ) → length text ≤ turns → (offset : ℕ)
    → CutsInto offset text (tokens_in (lexemes_from offset 0 text)) (starts_in (lexemes_from offset 0 text))
unfolding lexemes_from
cut_within turns [] le offset = nothing
cut_within zero (b ∷ bytes) le offset = absurd (omega arith)
cut_within (suc turns) (b ∷ bytes) le offset =
    let text = b ∷ bytes in
    let some : 0 < length text = omega arith in
    let piece = piece_of text in
    let fits = piece_fits text some in
    let others = cut_within turns (drop piece.len text) (omega (arith, fits.0, length-drop piece.len text)) (offset + piece.len) in
    subst (λ (ls : List Lexeme). CutsInto offset text (tokens_in ls) (starts_in ls)) (sym (lexemes_from-piece offset text some))
    (at_piece offset piece.len b bytes piece.token (lexemes_from (offset + piece.len) 0 (drop piece.len text)) fits.1 (stands b bytes)
    (gap_goes_on b bytes) others)

pub cuts_into : (text : List ℕ) → CutsInto 0 text (tokens_of text) (starts_of text)
cuts_into text = cut_within (length text) text (omega arith) 0
