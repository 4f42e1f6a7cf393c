-- A token's bytes are its piece again.
use Rattle.std.proofs.Common.{◌≡◌, ℕ, ◌<◌, ◌^◌, Bool, true, cond, eqb, leb, List, [], ◌∷◌, ◌++◌, length, Option, refl, sym, ap}
use Rattle.std.proofs.Common.{◌∙◌, subst, arith}
use Rattle.std.specs.Prelude.{take_while, unwrap_or, ◌&&◌}
use Rattle.std.specs.Option.{option_map}
use Rattle.std.specs.List.{prefix_len, list_all}
use Rattle.std.specs.Char.{is_ascii_alphabetic, is_ascii_digit}
use Rattle.std.specs.Fmt.{decimal}
use Rattle.std.specs.Str.{all_ascii_digits}
use Rattle.std.specs.Str.Parse.{digits_value}
use Rattle.std.proofs.lemmas.Bool.{cond-true, cond-false, and_parts, eq-eqb, le-leb}
use Rattle.std.proofs.lemmas.Fmt.{digits_decimal, digits_value-decimal, decimal_nonempty}
use Rattle.std.proofs.lemmas.Str.Parse.{IsNumeralModel, numerals_by_value, tells_all_ascii_digits}
use Rattle.std.proofs.lemmas.List.{take_at}
use Rattle.std.proofs.lemmas.List.Recursion.{same_from_clauses}
use Rattle.pipe_tokens.specs.declared.token.Token.{Token}
use Rattle.pipe_tokens.specs.declared.token.Token.TheVariants as tokens
use Rattle.pipe_tokens.specs.Character.{is_white, is_comment_byte, is_name_byte}
use Rattle.pipe_tokens.specs.Naming.{is_identifier, is_identifier_of_name_length}
use Rattle.pipe_tokens.specs.Spelled.{bytes_of_word}
use Rattle.pipe_tokens.specs.Lexing.{gap, lexeme, token_of_word, token_of_digits, word_piece, digits_piece, piece_of}
use Rattle.pipe_tokens.specs.Spelling.{bytes_of, begins_word, HasSpelling}
use Rattle.pipe_tokens.proofs.Symbols.{word_is_identifier, word_of-bytes_of_word, mark_is_piece}
use Rattle.pipe_tokens.proofs.Characters.{letter_in_name, digit_in_name, letter_above, digit_above, digit_no_letter, no_white, no_comment}
use Rattle.pipe_tokens.proofs.Runs.{run_is, run_within, narrower_stops}

-- an identifier with no letter, digit or `_` behind it
pub identifier_is_piece : (bytes rest : List ℕ) → is_identifier bytes ≡ true → prefix_len is_name_byte rest ≡ 0
    → piece_of (bytes ++ rest) ≡ lexeme (token_of_word bytes) (length bytes)
unfolding piece_of
identifier_is_piece [] rest named stops = absurd cc
identifier_is_piece (b ∷ bytes) rest named stops =
    let text = b ∷ (bytes ++ rest) in
    let parts = and_parts (is_ascii_alphabetic b) (list_all is_name_byte bytes) named in
    let above = letter_above b parts.0 in
    let all : list_all is_name_byte (b ∷ bytes) ≡ true =
    subst (λ (x : Bool). (x && list_all is_name_byte bytes) ≡ true) (sym (letter_in_name b parts.0)) parts.1 in
    let run : prefix_len is_name_byte text ≡ length (b ∷ bytes) = run_is is_name_byte (b ∷ bytes) rest all stops in
    let front : take_while is_name_byte text ≡ b ∷ bytes = take_at (b ∷ bytes) rest (prefix_len is_name_byte text) (sym run) in
    cond-false (is_white b) (gap 1) _ (no_white b (omega arith))
    ∙ cond-false (eqb b 35) (gap (prefix_len is_comment_byte text)) _ (no_comment b (omega arith))
    ∙ cond-true (is_ascii_alphabetic b) (word_piece text) _ parts.0
    ∙ (λ i. lexeme (token_of_word (front i)) (run i))

-- digits with no letter, digit or `_` behind them
pub digits_are_piece : (bytes rest : List ℕ) → 0 < length bytes → list_all is_ascii_digit bytes ≡ true → prefix_len is_name_byte rest ≡ 0
    → piece_of (bytes ++ rest) ≡ lexeme (token_of_digits bytes) (length bytes)
unfolding piece_of
digits_are_piece [] rest some all stops = absurd (omega arith)
digits_are_piece (b ∷ bytes) rest some all stops =
    let text = b ∷ (bytes ++ rest) in
    let parts = and_parts (is_ascii_digit b) (list_all is_ascii_digit bytes) all in
    let above = digit_above b parts.0 in
    let run : prefix_len is_ascii_digit text ≡ length (b ∷ bytes) =
    run_is is_ascii_digit (b ∷ bytes) rest all (narrower_stops is_ascii_digit is_name_byte rest digit_in_name stops) in
    let names : prefix_len is_name_byte text ≡ length (b ∷ bytes) =
    run_is is_name_byte (b ∷ bytes) rest (run_within is_ascii_digit is_name_byte (b ∷ bytes) digit_in_name all) stops in
    let front : take_while is_ascii_digit text ≡ b ∷ bytes = take_at (b ∷ bytes) rest (prefix_len is_ascii_digit text) (sym run) in
    cond-false (is_white b) (gap 1) _ (no_white b above)
    ∙ cond-false (eqb b 35) (gap (prefix_len is_comment_byte text)) _ (no_comment b above)
    ∙ cond-false (is_ascii_alphabetic b) (word_piece text) _ (digit_no_letter b parts.0)
    ∙ cond-true (is_ascii_digit b) (digits_piece text) _ parts.0
    ∙ ap (λ (t : Token). lexeme t (prefix_len is_ascii_digit text)) (cond-true
    (eqb (prefix_len is_name_byte text) (prefix_len is_ascii_digit text)) (token_of_digits (take_while is_ascii_digit text)) tokens.Bad
    (eq-eqb _ _ (names ∙ sym run)))
    ∙ (λ i. lexeme (token_of_digits (front i)) (run i))

-- digits are std's numerals
pub numerals : IsNumeralModel (λ (ds : List ℕ). all_ascii_digits ds ≡ true) (digits_value 10)
numerals = numerals_by_value (λ (ds : List ℕ). all_ascii_digits ds ≡ true) tells_all_ascii_digits

pub all_digits : (ds : List ℕ) → all_ascii_digits ds ≡ list_all is_ascii_digit ds
all_digits =
    same_from_clauses all_ascii_digits (list_all is_ascii_digit) (λ (b : ℕ) (r : Bool). is_ascii_digit b && r) refl (λ _ _. refl)
    (λ _ _. refl)

-- a token's bytes, with no letter, digit or `_` behind a word or a number
pub token_is_piece : (token : Token) (rest : List ℕ) → HasSpelling token → (begins_word token ≡ true → prefix_len is_name_byte rest ≡ 0)
    → piece_of (bytes_of token ++ rest) ≡ lexeme token (length (bytes_of token))
token_is_piece (tokens.Keyword word) rest h stops =
    identifier_is_piece (bytes_of_word word) rest (word_is_identifier word) (stops refl)
    ∙ ap (λ (found : Option _). lexeme
    (unwrap_or (option_map tokens.Keyword found) (cond (is_identifier_of_name_length (bytes_of_word word)) (tokens.Name (bytes_of_word word)) tokens.Bad))
    (length (bytes_of_word word))) (word_of-bytes_of_word word)
token_is_piece (tokens.Punct mark) rest h stops = mark_is_piece mark rest
token_is_piece (tokens.Name name) rest h stops =
    identifier_is_piece name rest (and_parts (is_identifier name) (leb (length name) 32) h.0).0 (stops refl)
    ∙ ap (λ (found : Option _). lexeme (unwrap_or (option_map tokens.Keyword found) (cond (is_identifier_of_name_length name) (tokens.Name name) tokens.Bad))
    (length name)) h.1
    ∙ ap (λ (t : Token). lexeme t (length name)) (cond-true (is_identifier_of_name_length name) (tokens.Name name) tokens.Bad h.0)
token_is_piece (tokens.Int value) rest h stops =
    let small : value < 2 ^ 64 = omega arith in
    let value_is : digits_value 10 (decimal value) ≡ value = digits_value-decimal numerals value small in
    digits_are_piece (decimal value) rest (decimal_nonempty value small)
    (sym (all_digits (decimal value)) ∙ digits_decimal numerals value small) (stops refl)
    ∙ ap (λ (n : ℕ). lexeme (cond (leb n 2147483647) (tokens.Int n) tokens.TooBig) (length (decimal value))) value_is
    ∙ ap (λ (t : Token). lexeme t (length (decimal value)))
    (cond-true (leb value 2147483647) (tokens.Int value) tokens.TooBig (le-leb value 2147483647 h))
token_is_piece tokens.TooBig rest h stops = absurd h
token_is_piece tokens.Bad rest h stops = absurd h
token_is_piece tokens.NotAscii rest h stops = absurd h
