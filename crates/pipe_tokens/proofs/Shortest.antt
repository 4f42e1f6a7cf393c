-- A text is no shorter than the spelling of its tokens.
use Rattle.std.proofs.Common.{◌≡◌, ℕ, zero, suc, ◌+◌, ◌-◌, ◌<◌, ◌≤◌, Bool, true, false, cond, eqb, leb, List, [], ◌∷◌, length}
use Rattle.std.proofs.Common.{drop, map, Option, Some, None, refl, sym, ap, ◌∙◌, subst, arith}
use Rattle.std.specs.Prelude.{◌&&◌, take_while, unwrap_or}
use Rattle.std.specs.Option.{option_map}
use Rattle.std.specs.Fmt.{decimal}
use Rattle.std.specs.Str.{bytes_eq}
use Rattle.std.specs.Str.Parse.{digits_value}
use Rattle.std.specs.Char.{is_ascii_digit}
use Rattle.std.specs.List.{prefix_len, list_all, AllByRecursion}
use Rattle.std.proofs.lemmas.Bool.{cond-true, cond_both, and_parts, leb-true, eqb-true}
use Rattle.std.proofs.lemmas.Fmt.{length-decimal-le}
use Rattle.std.proofs.lemmas.Int.Digits.{digits_value-lt}
use Rattle.std.proofs.lemmas.List.{length-append, length-drop}
use Rattle.std.proofs.lemmas.List.Folds.{length-prefix_len}
use Rattle.std.proofs.lemmas.Slice.Eq.{bytes_eq-Decides}
use Rattle.pipe_tokens.specs.declared.token.Token.{Token}
use Rattle.pipe_tokens.specs.declared.token.Token.TheVariants as tokens
use Rattle.pipe_tokens.specs.declared.token.Keyword.{Keyword}
use Rattle.pipe_tokens.specs.declared.token.Punct.{Punct}
use Rattle.pipe_tokens.specs.declared.piece.Piece.{Piece}
use Rattle.pipe_tokens.specs.Character.{is_name_byte}
use Rattle.pipe_tokens.specs.Naming.{is_identifier_of_name_length}
use Rattle.pipe_tokens.specs.Spelled.{bytes_of_word, word_of, all_words, bytes_of_mark, mark_at}
use Rattle.pipe_tokens.specs.Lexing.{lexeme, token_of_word, token_of_digits}
use Rattle.pipe_tokens.specs.Lexing.{piece_of, Lexeme, is_fault, lexemes_with, lexemes_from, tokens_of}
use Rattle.pipe_tokens.specs.Spelling.{bytes_of, begins_word, blank_behind, spelling, IsReadable}
use Rattle.pipe_tokens.proofs.PieceKinds.{Kind, at_white, at_comment, at_letter, at_digit, at_not_ascii, at_other, kind_of}
use Rattle.pipe_tokens.proofs.Characters.{letter_in_name, digit_in_name}
use Rattle.pipe_tokens.proofs.Pieces.{find_passes, piece_fits}
use Rattle.pipe_tokens.proofs.Runs.{run_stops, run_passes}
use Rattle.pipe_tokens.proofs.Again.{numerals, all_digits}
use Rattle.pipe_tokens.proofs.Steps.{lexemes_from-piece}

-- what a token says of the text that it was cut from
pub record Taken (text : List ℕ) (token : Token) (len : ℕ) : Type 0 where
  pub short : length (bytes_of token) ≤ len
  pub begins : begins_word token ≡ true → 0 < prefix_len is_name_byte text
  pub stops : begins_word token ≡ true → prefix_len is_name_byte (drop len text) ≡ 0
  pub readable : IsReadable token

abbrev pub IfTaken : List ℕ → Option Token → ℕ → Type 0
IfTaken text None len = Unit {0}
IfTaken text (Some token) len = Taken text token len

-- the reserved word that bytes are
pub word_is : (bytes : List ℕ) (word : Keyword) → word_of bytes ≡ Some word → bytes_of_word word ≡ bytes
word_is bytes word e =
    (bytes_eq-Decides (bytes_of_word word) bytes).0 (find_passes (λ (w : Keyword). bytes_eq (bytes_of_word w) bytes) all_words word e)

word_taken : (text bytes : List ℕ) (len : ℕ) → length bytes ≡ len → 0 < prefix_len is_name_byte text
    → prefix_len is_name_byte (drop len text) ≡ 0 → Taken text (token_of_word bytes) len
word_taken text bytes len len_is begins stops = go (word_of bytes) refl
  where
    go : (found : Option Keyword) → word_of bytes ≡ found
        → Taken text (unwrap_or (option_map tokens.Keyword found) (cond (is_identifier_of_name_length bytes) (tokens.Name bytes) tokens.Bad)) len
    go (Some word) e =
        record { short = omega (arith, ap length (word_is bytes word e), len_is); begins = λ _. begins; stops = λ _. stops; readable = tt }
    go None e =
        cond_both (is_identifier_of_name_length bytes) (tokens.Name bytes) tokens.Bad (λ (t : Token). Taken text t len)
        (λ named. record { short = omega (arith, len_is); begins = λ _. begins; stops = λ _. stops; readable = (named, e) })
        (λ _. record { short = omega arith; begins = λ no_word. absurd cc; stops = λ no_word. absurd cc; readable = tt })

decimal_short : (bytes : List ℕ) → 0 < length bytes → list_all is_ascii_digit bytes ≡ true → digits_value 10 bytes ≤ 2147483647
    → length (decimal (digits_value 10 bytes)) ≤ length bytes
decimal_short bytes some all small =
    length-decimal-le (length bytes) (digits_value 10 bytes) some (digits_value-lt 10 bytes (numerals.to bytes (all_digits bytes ∙ all)))
    (omega arith)

digits_taken : (text bytes : List ℕ) (len : ℕ) → length bytes ≡ len → 0 < len → list_all is_ascii_digit bytes ≡ true
    → 0 < prefix_len is_name_byte text → prefix_len is_name_byte (drop len text) ≡ 0 → Taken text (token_of_digits bytes) len
digits_taken text bytes len len_is some all begins stops =
    cond_both (leb (digits_value 10 bytes) 2147483647) (tokens.Int (digits_value 10 bytes)) tokens.TooBig (λ (t : Token). Taken text t len)
    (λ e. let small = leb-true _ _ e in
    record {
      short =
          omega (arith, decimal_short bytes (omega arith) all small, len_is);
      begins = λ _. begins;
      stops = λ _. stops;
      readable = small;
    })
    (λ _. record { short = omega arith; begins = λ no_word. absurd cc; stops = λ no_word. absurd cc; readable = tt })

mark_taken : (text : List ℕ) (found : Option Punct)
    → (let piece : Piece =
    unwrap_or (option_map (λ (mark : Punct). lexeme (tokens.Punct mark) (length (bytes_of_mark mark))) found) (lexeme tokens.Bad 1) in
    IfTaken text piece.token piece.len)
mark_taken text None = record { short = omega arith; begins = λ no_word. absurd cc; stops = λ no_word. absurd cc; readable = tt }
mark_taken text (Some mark) = record { short = omega arith; begins = λ no_word. absurd cc; stops = λ no_word. absurd cc; readable = tt }

run_begins : (p : ℕ → Bool) (b : ℕ) (bytes : List ℕ) → p b ≡ true → 0 < prefix_len p (b ∷ bytes)
run_begins p b bytes e = let run = cond-true (p b) (1 + prefix_len p bytes) 0 e in omega arith

kind_taken : (b : ℕ) (bytes : List ℕ) (piece : Piece) → Kind b (b ∷ bytes) piece → IfTaken (b ∷ bytes) piece.token piece.len
kind_taken b bytes _ (at_white e) = tt
kind_taken b bytes _ (at_comment e) = tt
kind_taken b bytes _ (at_letter e) =
    let text = b ∷ bytes in
    word_taken text (take_while is_name_byte text) (prefix_len is_name_byte text) (length-prefix_len is_name_byte text)
    (run_begins is_name_byte b bytes (letter_in_name b e)) (run_stops is_name_byte text)
kind_taken b bytes _ (at_digit e) =
    let text = b ∷ bytes in
    let n = prefix_len is_ascii_digit text in
    cond_both (eqb (prefix_len is_name_byte text) n) (token_of_digits (take_while is_ascii_digit text)) tokens.Bad
    (λ (t : Token). Taken text t n)
    (λ same. digits_taken text (take_while is_ascii_digit text) n (length-prefix_len is_ascii_digit text)
    (run_begins is_ascii_digit b bytes e) (run_passes is_ascii_digit text) (run_begins is_name_byte b bytes (digit_in_name b e))
    (ap (λ (k : ℕ). prefix_len is_name_byte (drop k text)) (sym (eqb-true _ _ same)) ∙ run_stops is_name_byte text))
    (λ _. record { short = omega arith; begins = λ no_word. absurd cc; stops = λ no_word. absurd cc; readable = tt })
kind_taken b bytes _ (at_not_ascii e) =
    record { short = omega arith; begins = λ no_word. absurd cc; stops = λ no_word. absurd cc; readable = tt }
kind_taken b bytes _ (at_other e) = mark_taken (b ∷ bytes) (mark_at (b ∷ bytes))

pub taken : (text : List ℕ) → 0 < length text → IfTaken text (piece_of text).token (piece_of text).len
unfolding piece_of
taken [] some = absurd (omega arith)
taken (b ∷ bytes) some = kind_taken b bytes _ (kind_of b (b ∷ bytes))

abbrev cut : ℕ → List ℕ → List Token
cut offset text = map (λ (l : Lexeme). l.token) (lexemes_from offset 0 text)

-- a blank is put only before a token that begins with a letter or a digit
pub blank_short : (behind_word : Bool) (ts : List Token) → length (blank_behind behind_word ts) ≤ 1
blank_short behind_word [] = omega arith
blank_short behind_word (t ∷ ts) =
    cond_both (behind_word && begins_word t) (32 ∷ []) [] (λ (x : List ℕ). length x ≤ 1) (λ _. omega arith) (λ _. omega arith)

no_blank : (behind_word : Bool) (t : Token) (ts : List Token) → (behind_word ≡ true → begins_word t ≡ true → ⊥)
    → length (blank_behind behind_word (t ∷ ts)) ≡ 0
no_blank behind_word t ts h =
    cond_both (behind_word && begins_word t) (32 ∷ []) [] (λ (x : List ℕ). length x ≡ 0)
    (λ e. let parts = and_parts behind_word (begins_word t) e in absurd (h parts.0 parts.1)) (λ _. refl)

-- what the text costs behind a token
abbrev pub cost : Bool → List Token → ℕ
cost behind_word ts = length (blank_behind behind_word ts) + length (spelling ts)

cost_at : (offset : ℕ) (text : List ℕ) (behind_word : Bool) (piece : Piece) (rest : ℕ) → 0 < piece.len → piece.len + rest ≡ length text
    → (behind_word ≡ true → prefix_len is_name_byte text ≡ 0) → IfTaken text piece.token piece.len
    → ((offset' : ℕ) (behind : Bool) → (behind ≡ true → prefix_len is_name_byte (drop piece.len text) ≡ 0)
    → cost behind (cut offset' (drop piece.len text)) ≤ rest)
    → cost behind_word
    (map (λ (l : Lexeme). l.token) (lexemes_with offset piece.token (lexemes_from (offset + piece.len) 0 (drop piece.len text))))
    ≤ length text
unfolding spelling
cost_at offset text behind_word piece rest some parts stops h smaller = go piece.token h
  where
    later : List Lexeme
    later = lexemes_from (offset + piece.len) 0 (drop piece.len text)

    go : (o : Option Token) → IfTaken text o piece.len
        → cost behind_word (map (λ (l : Lexeme). l.token) (lexemes_with offset o later)) ≤ length text
    go None h =
        omega (
          arith,
          blank_short behind_word (map (λ (l : Lexeme). l.token) later),
          blank_short false (map (λ (l : Lexeme). l.token) later),
          smaller (offset + piece.len) false (λ e. absurd cc),
        )
    go (Some t) h =
        let first : Lexeme = record { token = t; start = offset } in
        let none : (ts : List Token) → length (blank_behind behind_word (t ∷ ts)) ≡ 0 =
        λ ts. no_blank behind_word t ts (λ behind word. let at = stops behind in let more = h.begins word in absurd (omega arith)) in
        let whole : (ts : List Token) → length (spelling (t ∷ ts)) ≡ length (bytes_of t) + cost (begins_word t) ts =
        λ ts. length-append (bytes_of t) _
        ∙ ap (λ (n : ℕ). length (bytes_of t) + n) (length-append (blank_behind (begins_word t) ts) (spelling ts)) in
        cond_both (is_fault t) [] later (λ (ls : List Lexeme). cost behind_word (t ∷ map (λ (l : Lexeme). l.token) ls) ≤ length text)
        (λ _. omega (arith, none [], whole [], h.short))
        (λ _. let ts = map (λ (l : Lexeme). l.token) later in
        omega (arith, none ts, whole ts, h.short, smaller (offset + piece.len) (begins_word t) h.stops))

cost_within : (turns : ℕ) (text : List ℕ) → length text ≤ turns → (offset : ℕ) (behind_word : Bool)
    → (behind_word ≡ true → prefix_len is_name_byte text ≡ 0) → cost behind_word (cut offset text) ≤ length text
unfolding lexemes_from spelling
cost_within turns [] le offset behind_word stops = omega arith
cost_within zero (b ∷ bytes) le offset behind_word stops = absurd (omega arith)
cost_within (suc turns) (b ∷ bytes) le offset behind_word stops =
    let text = b ∷ bytes in
    let some : 0 < length text = omega arith in
    let piece = piece_of text in
    let fits = piece_fits text some in
    let len = length-drop piece.len text in
    let bound = cost_at offset text behind_word piece (length text - piece.len) fits.0 (omega (arith, fits.1)) stops (taken text some)
    (λ offset' behind h. omega (arith, cost_within turns (drop piece.len text) (omega (arith, fits.0)) offset' behind h, len)) in
    subst (λ (ls : List Lexeme). cost behind_word (map (λ (l : Lexeme). l.token) ls) ≤ length text)
    (sym (lexemes_from-piece offset text some)) bound

pub is_shortest : (text : List ℕ) → length (spelling (tokens_of text)) ≤ length text
is_shortest text = omega (arith, cost_within (length text) text (omega arith) 0 false (λ e. absurd cc))

all_readable : (turns : ℕ) (text : List ℕ) → length text ≤ turns → (offset : ℕ) → AllByRecursion IsReadable (cut offset text)
unfolding lexemes_from
all_readable turns [] le offset = tt
all_readable zero (b ∷ bytes) le offset = absurd (omega arith)
all_readable (suc turns) (b ∷ bytes) le offset =
    let text = b ∷ bytes in
    let some : 0 < length text = omega arith in
    let piece = piece_of text in
    let fits = piece_fits text some in
    let later = lexemes_from (offset + piece.len) 0 (drop piece.len text) in
    let others = all_readable turns (drop piece.len text) (omega (arith, fits.0, length-drop piece.len text)) (offset + piece.len) in
    subst (λ (ls : List Lexeme). AllByRecursion IsReadable (map (λ (l : Lexeme). l.token) ls)) (sym (lexemes_from-piece offset text some))
    (readable_at text offset piece.len later others piece.token (taken text some))
  where
    readable_at : (text : List ℕ) (offset len : ℕ) (later : List Lexeme) → AllByRecursion IsReadable (map (λ (l : Lexeme). l.token) later)
        → (o : Option Token) → IfTaken text o len
        → AllByRecursion IsReadable (map (λ (l : Lexeme). l.token) (lexemes_with offset o later))
    readable_at text offset len later others None h = others
    readable_at text offset len later others (Some t) h = (
      h.readable,
      cond_both (is_fault t) [] later (λ (ls : List Lexeme). AllByRecursion IsReadable (map (λ (l : Lexeme). l.token) ls)) (λ _. tt)
          (λ _. others),
    )

pub are_readable : (text : List ℕ) → AllByRecursion IsReadable (tokens_of text)
are_readable text = all_readable (length text) text (omega arith) 0
