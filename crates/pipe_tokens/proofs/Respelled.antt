-- What was spelled is cut into the same tokens again.
use Rattle.std.proofs.Common.{◌≡◌, ℕ, ◌+◌, ◌<◌, Bool, true, false, cond, List, [], ◌∷◌, ◌++◌, length, drop, map, refl, ap, ◌∙◌, arith}
use Rattle.std.specs.Prelude.{◌&&◌}
use Rattle.std.specs.List.{prefix_len, AllByRecursion}
use Rattle.std.proofs.lemmas.Bool.{and_parts}
use Rattle.std.proofs.lemmas.List.{length-append, drop_at}
use Rattle.std.proofs.lemmas.Fmt.{decimal_nonempty}
use Rattle.pipe_tokens.specs.declared.token.Token.{Token}
use Rattle.pipe_tokens.specs.declared.token.Token.TheVariants as tokens
use Rattle.pipe_tokens.specs.Character.{is_name_byte}
use Rattle.pipe_tokens.specs.Naming.{is_identifier}
use Rattle.pipe_tokens.specs.Spelled.{bytes_of_word}
use Rattle.pipe_tokens.specs.Lexing.{piece_of, Lexeme, is_fault, lexemes_with, lexemes_from, tokens_of}
use Rattle.pipe_tokens.specs.Spelling.{bytes_of, begins_word, blank_behind, spelling, HasSpelling}
use Rattle.pipe_tokens.proofs.Symbols.{word_is_identifier, mark_len, mark_stops}
use Rattle.pipe_tokens.proofs.Steps.{lexemes_from-piece}
use Rattle.pipe_tokens.proofs.Again.{token_is_piece}

abbrev cut : ℕ → List ℕ → List Token
cut offset text = map (λ (l : Lexeme). l.token) (lexemes_from offset 0 text)

identifier_some : (bytes : List ℕ) → is_identifier bytes ≡ true → 0 < length bytes
identifier_some [] e = absurd cc
identifier_some (b ∷ bytes) e = omega arith

pub bytes_some : (token : Token) → HasSpelling token → 0 < length (bytes_of token)
bytes_some (tokens.Keyword word) h = identifier_some (bytes_of_word word) (word_is_identifier word)
bytes_some (tokens.Punct mark) h = mark_len mark
bytes_some (tokens.Name name) h = identifier_some name (and_parts (is_identifier name) _ h.0).0
bytes_some (tokens.Int value) h = decimal_nonempty value (omega arith)
bytes_some tokens.TooBig h = absurd h
bytes_some tokens.Bad h = absurd h
bytes_some tokens.NotAscii h = absurd h

no_fault : (token : Token) → HasSpelling token → is_fault token ≡ false
no_fault (tokens.Keyword word) h = refl
no_fault (tokens.Punct mark) h = refl
no_fault (tokens.Name name) h = refl
no_fault (tokens.Int value) h = refl
no_fault tokens.TooBig h = absurd h
no_fault tokens.Bad h = absurd h
no_fault tokens.NotAscii h = absurd h

-- behind a word or a number stands no letter, digit or `_`
behind_stops : (behind_word : Bool) (ts : List Token) → AllByRecursion HasSpelling ts → behind_word ≡ true
    → prefix_len is_name_byte (blank_behind behind_word ts ++ spelling ts) ≡ 0
unfolding spelling
behind_stops behind_word [] h e = refl
behind_stops behind_word (tokens.Keyword word ∷ ts) h e = rw e refl
behind_stops behind_word (tokens.Name name ∷ ts) h e = rw e refl
behind_stops behind_word (tokens.Int value ∷ ts) h e = rw e refl
behind_stops behind_word (tokens.Punct mark ∷ ts) h e = rw e (mark_stops mark _)
behind_stops behind_word (tokens.TooBig ∷ ts) h e = absurd h.0
behind_stops behind_word (tokens.Bad ∷ ts) h e = absurd h.0
behind_stops behind_word (tokens.NotAscii ∷ ts) h e = absurd h.0

blank_is_gap : (offset : ℕ) (text : List ℕ) → cut offset (32 ∷ text) ≡ cut (offset + 1) text
unfolding piece_of
blank_is_gap offset text = ap (map (λ (l : Lexeme). l.token)) (lexemes_from-piece offset (32 ∷ text) (omega arith))

blank_is_passed : (behind_word : Bool) (ts : List Token) (text : List ℕ) (tokens : List Token) → ((offset : ℕ) → cut offset text ≡ tokens)
    → (offset : ℕ) → cut offset (blank_behind behind_word ts ++ text) ≡ tokens
blank_is_passed behind_word [] text tokens h offset = h offset
blank_is_passed behind_word (t ∷ ts) text tokens h offset = go (behind_word && begins_word t)
  where
    go : (b : Bool) → cut offset (cond b (32 ∷ []) [] ++ text) ≡ tokens
    go true = blank_is_gap offset text ∙ h (offset + 1)
    go false = h offset

comes_back : (ts : List Token) → AllByRecursion HasSpelling ts → (offset : ℕ) → cut offset (spelling ts) ≡ ts
unfolding spelling lexemes_from
comes_back [] h offset = refl
comes_back (t ∷ ts) h offset =
    let rest = blank_behind (begins_word t) ts ++ spelling ts in
    let text = bytes_of t ++ rest in
    let some : 0 < length text = omega (arith, bytes_some t h.0, length-append (bytes_of t) rest) in
    let piece = token_is_piece t rest h.0 (behind_stops (begins_word t) ts h.1) in
    let first : Lexeme = record { token = t; start = offset } in
    let later = lexemes_from (offset + length (bytes_of t)) 0 (drop (length (bytes_of t)) text) in
    let others : cut (offset + length (bytes_of t)) (drop (length (bytes_of t)) text) ≡ ts =
    ap (cut (offset + length (bytes_of t))) (drop_at (bytes_of t) rest (length (bytes_of t)) refl)
    ∙ blank_is_passed (begins_word t) ts (spelling ts) ts (comes_back ts h.1) (offset + length (bytes_of t)) in
    ap (map (λ (l : Lexeme). l.token)) (lexemes_from-piece offset text some
    ∙ ap (λ p. lexemes_with offset p.token (lexemes_from (offset + p.len) 0 (drop p.len text))) piece
    ∙ ap (λ (b : Bool). first ∷ cond b [] later) (no_fault t h.0))
    ∙ ap (λ (us : List Token). t ∷ us) others

pub spelling_comes_back : (ts : List Token) → AllByRecursion HasSpelling ts → tokens_of (spelling ts) ≡ ts
spelling_comes_back ts h = comes_back ts h 0
