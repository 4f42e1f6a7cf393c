-- The starts of the tokens rise, and lie within the text.
use Rattle.std.proofs.Common.{◌≡◌, ℕ, zero, suc, ◌+◌, ◌<◌, ◌≤◌, List, [], ◌∷◌, length, get_or, drop, map, Option, Some, None, sym}
use Rattle.std.proofs.Common.{◌∙◌, subst, arith, All}
use Rattle.std.specs.List.{AllByRecursion}
use Rattle.std.specs.List.Sorted.{IsStrictlyIncreasing}
use Rattle.std.proofs.lemmas.Bool.{cond_both}
use Rattle.std.proofs.lemmas.List.{length-drop, length-map}
use Rattle.std.proofs.lemmas.List.Elements.{All-from_recursion}
use Rattle.pipe_tokens.specs.declared.token.Token.{Token}
use Rattle.pipe_tokens.specs.Lexing.{piece_of, Lexeme, is_fault, lexemes_with, lexemes_from, lexemes_of, tokens_of, starts_of}
use Rattle.pipe_tokens.proofs.Pieces.{piece_fits}
use Rattle.pipe_tokens.proofs.Steps.{lexemes_from-piece}

-- each number lies above the one before
abbrev Rises : ℕ → ℕ → List ℕ → Type 0
Rises low high [] = Unit {0}
Rises low high (s ∷ ss) = (low ≤ s) × (s < high) × Rises (suc s) high ss

lower : (low lowest high : ℕ) (ss : List ℕ) → lowest ≤ low → Rises low high ss → Rises lowest high ss
lower low lowest high [] le h = tt
lower low lowest high (s ∷ ss) le h = (omega (arith, h.0), h.1, h.2)

abbrev starts_in : List Lexeme → List ℕ
starts_in lexemes = map (λ (l : Lexeme). l.start) lexemes

rises_with : (offset next high : ℕ) (o : Option Token) (later : List Lexeme) → offset < next → next ≤ high
    → Rises next high (starts_in later) → Rises offset high (starts_in (lexemes_with offset o later))
rises_with offset next high None later lt le h = lower next offset high (starts_in later) (omega arith) h
rises_with offset next high (Some t) later lt le h =
    cond_both (is_fault t) [] later (λ (ls : List Lexeme). Rises offset high (offset ∷ starts_in ls)) (λ _. (omega arith, omega arith, tt))
    (λ _. (omega arith, omega arith, lower next (suc offset) high (starts_in later) (omega arith) h))

rises_within : (turns : ℕ) (text : List ℕ) → length text ≤ turns → (offset high : ℕ) → offset + length text ≡ high
    → Rises offset high (starts_in (lexemes_from offset 0 text))
unfolding lexemes_from
rises_within turns [] le offset high e = tt
rises_within zero (b ∷ bytes) le offset high e = absurd (omega arith)
rises_within (suc turns) (b ∷ bytes) le offset high e =
    let text = b ∷ bytes in
    let some : 0 < length text = omega arith in
    let piece = piece_of text in
    let fits = piece_fits text some in
    let len = length-drop piece.len text in
    let others =
    rises_within turns (drop piece.len text) (omega (arith, fits.0, len)) (offset + piece.len) high (omega (arith, fits.1, len)) in
    subst (λ (ls : List Lexeme). Rises offset high (starts_in ls)) (sym (lexemes_from-piece offset text some))
    (rises_with offset (offset + piece.len) high piece.token (lexemes_from (offset + piece.len) 0 (drop piece.len text))
    (omega (arith, fits.0)) (omega (arith, fits.1)) others)

starts_rise : (text : List ℕ) → Rises 0 (length text) (starts_of text)
starts_rise text = rises_within (length text) text (omega arith) 0 (length text) (omega arith)

is_increasing : (low high : ℕ) (ss : List ℕ) → Rises low high ss → IsStrictlyIncreasing ss
is_increasing low high [] h k lt = absurd (omega arith)
is_increasing low high (s ∷ []) h k lt = absurd (omega arith)
is_increasing low high (s ∷ t ∷ ss) h zero lt = h.2.0
is_increasing low high (s ∷ t ∷ ss) h (suc k) lt =
    let moved : suc (k + 1) ≡ suc k + 1 = omega arith in
    subst (λ (n : ℕ). get_or (s ∷ t ∷ ss) (suc k) 0 < get_or (s ∷ t ∷ ss) n 0) moved
    (is_increasing (suc s) high (t ∷ ss) h.2 k (omega arith))

are_below : (low high : ℕ) (ss : List ℕ) → Rises low high ss → AllByRecursion (λ s. s < high) ss
are_below low high [] h = tt
are_below low high (s ∷ ss) h = (h.1, are_below (suc s) high ss h.2)

pub starts_increase : (text : List ℕ) → IsStrictlyIncreasing (starts_of text)
starts_increase text = is_increasing 0 (length text) (starts_of text) (starts_rise text)

pub starts_within : (text : List ℕ) → All (λ start. start < length text) (starts_of text)
starts_within text =
    All-from_recursion (λ s. s < length text) (starts_of text) (are_below 0 (length text) (starts_of text) (starts_rise text))

pub as_many_starts : (text : List ℕ) → length (starts_of text) ≡ length (tokens_of text)
as_many_starts text = length-map (lexemes_of text) (λ (l : Lexeme). l.start) ∙ sym (length-map (lexemes_of text) (λ (l : Lexeme). l.token))
