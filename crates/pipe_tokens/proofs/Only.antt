-- A text is cut in one way only.
use Rattle.std.proofs.Common.{◌≡◌, ℕ, suc, ◌+◌, ◌<◌, Bool, true, false, cond, eqb, leb, List, [], ◌∷◌, ◌++◌, length, drop, map}
use Rattle.std.proofs.Common.{Option, Some, None, refl, sym, ap, ◌∙◌, subst, inl, inr, arith, append_assoc}
use Rattle.std.specs.Prelude.{◌&&◌, ◌⊎◌, take_while, unwrap_or}
use Rattle.std.specs.Option.{option_map}
use Rattle.std.specs.Str.Parse.{digits_value}
use Rattle.std.specs.Char.{is_ascii_alphabetic, is_ascii_digit}
use Rattle.std.specs.List.{prefix_len, list_all}
use Rattle.std.proofs.lemmas.Bool.{cond-true, cond-false, and_parts, and_right}
use Rattle.std.proofs.lemmas.Bool.{ne_eqb, le-leb, lt-leb, leb-true, leb-false, false_from_ne_true}
use Rattle.std.proofs.lemmas.Bool.Decides.{when_true, when_false}
use Rattle.std.proofs.lemmas.List.Folds.{length-prefix_len}
use Rattle.std.proofs.lemmas.List.{length-append, append-nil, drop_at}
use Rattle.pipe_tokens.specs.declared.token.Token.{Token}
use Rattle.pipe_tokens.specs.declared.token.Token.TheVariants as tokens
use Rattle.pipe_tokens.specs.declared.token.Keyword.{Keyword}
use Rattle.pipe_tokens.specs.declared.token.Punct.{Punct}
use Rattle.pipe_tokens.specs.declared.piece.Piece.{Piece}
use Rattle.pipe_tokens.specs.Character.{is_white, is_comment_byte, is_name_byte}
use Rattle.pipe_tokens.specs.Naming.{is_identifier, is_identifier_of_name_length}
use Rattle.pipe_tokens.specs.Spelled.{word_of, bytes_of_mark, mark_at}
use Rattle.pipe_tokens.specs.Lexing.{gap, lexeme, token_of_word, token_of_digits, word_piece, digits_piece, mark_piece, piece_of}
use Rattle.pipe_tokens.specs.Lexing.{Lexeme, is_fault, lexemes_with, lexemes_from, tokens_of, starts_of}
use Rattle.pipe_tokens.specs.Cutting.{Gap, nothing, white, comment, IsDigits, Spells, IsLongest, BeginsNothing, BeginsLongName}
use Rattle.pipe_tokens.specs.Cutting.{BeginsDigitsAndLetter, BeginsNotAscii, StandsAt, CutsInto}
use Rattle.pipe_tokens.proofs.Symbols.{word_is_identifier, word_of-bytes_of_word, mark_is_piece, mark_len, word_short}
use Rattle.pipe_tokens.proofs.Characters.{digit_in_name, letter_above, letter_below, digit_above, digit_below, digit_no_letter}
use Rattle.pipe_tokens.proofs.Characters.{no_white, no_comment}
use Rattle.pipe_tokens.proofs.Pieces.{mark_stands}
use Rattle.pipe_tokens.proofs.Runs.{run_is, run_within}
use Rattle.pipe_tokens.proofs.Shortest.{word_is}
use Rattle.pipe_tokens.proofs.Again.{identifier_is_piece, digits_are_piece}
use Rattle.pipe_tokens.proofs.Longest.{front_within, run_behind, identifier_in_name, named_identifier, IsWord, kinds_of_token, word_in_name}
use Rattle.pipe_tokens.proofs.Steps.{lexemes_from-piece}

-- ---- gaps

comment_is_piece : (body behind : List ℕ) → list_all is_comment_byte body ≡ true → prefix_len is_comment_byte behind ≡ 0
    → piece_of (35 ∷ (body ++ behind)) ≡ gap (suc (length body))
unfolding piece_of
comment_is_piece body behind all stops =
    let run : 1 + prefix_len is_comment_byte (body ++ behind) ≡ suc (length body) =
    omega (arith, run_is is_comment_byte body behind all stops) in
    ap gap run

white_is_piece : (b : ℕ) (text : List ℕ) → is_white b ≡ true → piece_of (b ∷ text) ≡ gap 1
unfolding piece_of
white_is_piece b text e = cond-true (is_white b) (gap 1) _ e

-- a gap's piece is passed over
piece_passed : (offset : ℕ) (text : List ℕ) (n : ℕ) → 0 < length text → piece_of text ≡ gap n
    → lexemes_from offset 0 text ≡ lexemes_from (offset + n) 0 (drop n text)
piece_passed offset text n some e =
    lexemes_from-piece offset text some
    ∙ ap (λ (p : Piece). lexemes_with offset p.token (lexemes_from (offset + p.len) 0 (drop p.len text))) e

gap_is_passed : (rest : List ℕ) (offset : ℕ) (gap : List ℕ) → Gap rest gap
    → lexemes_from offset 0 (gap ++ rest) ≡ lexemes_from (offset + length gap) 0 rest
gap_is_passed rest offset _ nothing = let e : offset ≡ offset + 0 = omega arith in ap (λ (n : ℕ). lexemes_from n 0 rest) e
gap_is_passed rest offset _ (white b others e h) =
    let moved : (offset + 1) + length others ≡ offset + suc (length others) = omega arith in
    piece_passed offset (b ∷ (others ++ rest)) 1 (omega arith) (white_is_piece b (others ++ rest) e)
    ∙ gap_is_passed rest (offset + 1) others h ∙ ap (λ (n : ℕ). lexemes_from n 0 rest) moved
gap_is_passed rest offset _ (comment body others all stops h) =
    let text = 35 ∷ (body ++ (others ++ rest)) in
    let len = suc (length body) in
    let whole : 35 ∷ ((body ++ others) ++ rest) ≡ text = ap (λ (x : List ℕ). 35 ∷ x) (append_assoc body others rest) in
    let moved : (offset + len) + length others ≡ offset + suc (length (body ++ others)) = omega (arith, length-append body others) in
    ap (lexemes_from offset 0) whole
    ∙ piece_passed offset text len (omega arith) (comment_is_piece body (others ++ rest) all stops)
    ∙ ap (lexemes_from (offset + len) 0) (drop_at (35 ∷ body) (others ++ rest) len refl)
    ∙ gap_is_passed rest (offset + len) others h
    ∙ ap (λ (n : ℕ). lexemes_from n 0 rest) moved

-- ---- tokens

first_in_name : (bytes : List ℕ) → 0 < length bytes → list_all is_name_byte bytes ≡ true → 0 < prefix_len is_name_byte bytes
first_in_name bytes some all = omega (arith, some, front_within is_name_byte bytes [] all, ap (prefix_len is_name_byte) (append-nil bytes))

word_piece_is : (token : Token) (bytes rest : List ℕ) → is_identifier bytes ≡ true → IsLongest token bytes rest
    → token_of_word bytes ≡ token → piece_of (bytes ++ rest) ≡ lexeme token (length bytes)
word_piece_is token bytes rest named h is =
    let name = identifier_in_name bytes named in
    identifier_is_piece bytes rest named (h.parted (first_in_name bytes name.0 name.1)) ∙ ap (λ (t : Token). lexeme t (length bytes)) is

digits_piece_is : (token : Token) (bytes rest : List ℕ) → IsDigits bytes → IsLongest token bytes rest → token_of_digits bytes ≡ token
    → piece_of (bytes ++ rest) ≡ lexeme token (length bytes)
digits_piece_is token bytes rest digits h is =
    digits_are_piece bytes rest digits.some digits.digits
    (h.parted (first_in_name bytes digits.some (run_within is_ascii_digit is_name_byte bytes digit_in_name digits.digits)))
    ∙ ap (λ (t : Token). lexeme t (length bytes)) is

pub longest_is_piece : (token : Token) (bytes rest : List ℕ) → IsLongest token bytes rest
    → piece_of (bytes ++ rest) ≡ lexeme token (length bytes)
longest_is_piece (tokens.Keyword word) bytes rest h =
    word_piece_is (tokens.Keyword word) bytes rest (ap is_identifier h.spelled ∙ word_is_identifier word) h
    (ap (λ (found : Option Keyword). unwrap_or (option_map tokens.Keyword found) (cond (is_identifier_of_name_length bytes) (tokens.Name bytes) tokens.Bad))
    (ap word_of h.spelled ∙ word_of-bytes_of_word word))
longest_is_piece (tokens.Punct mark) bytes rest h =
    ap (λ (x : List ℕ). piece_of (x ++ rest)) h.spelled ∙ mark_is_piece mark rest
    ∙ ap (λ (x : List ℕ). lexeme (tokens.Punct mark) (length x)) (sym h.spelled)
longest_is_piece (tokens.Name name) bytes rest h =
    let named : is_identifier_of_name_length bytes ≡ true = ap is_identifier_of_name_length h.spelled.1 ∙ h.spelled.0.0 in
    word_piece_is (tokens.Name name) bytes rest (named_identifier bytes named) h
    (ap (λ (found : Option Keyword). unwrap_or (option_map tokens.Keyword found) (cond (is_identifier_of_name_length bytes) (tokens.Name bytes) tokens.Bad))
    (ap word_of h.spelled.1 ∙ h.spelled.0.1)
    ∙ cond-true (is_identifier_of_name_length bytes) (tokens.Name bytes) tokens.Bad named ∙ ap tokens.Name h.spelled.1)
longest_is_piece (tokens.Int value) bytes rest h =
    digits_piece_is (tokens.Int value) bytes rest h.spelled.0 h
    (cond-true (leb (digits_value 10 bytes) 2147483647) (tokens.Int (digits_value 10 bytes)) tokens.TooBig
    (le-leb (digits_value 10 bytes) 2147483647 (omega (arith, h.spelled.1, h.spelled.2))) ∙ ap tokens.Int h.spelled.1)
longest_is_piece tokens.TooBig bytes rest h =
    digits_piece_is tokens.TooBig bytes rest h.spelled.0 h
    (cond-false (leb (digits_value 10 bytes) 2147483647) (tokens.Int (digits_value 10 bytes)) tokens.TooBig
    (lt-leb (digits_value 10 bytes) 2147483647 h.spelled.1))
longest_is_piece tokens.Bad bytes rest h = absurd h.spelled
longest_is_piece tokens.NotAscii bytes rest h = absurd h.spelled

-- ---- faults

-- where neither a gap, nor a letter, nor a digit begins
other_piece : (b : ℕ) (others : List ℕ) → is_white b ≡ false → (b ≡ 35 → ⊥) → is_ascii_alphabetic b ≡ false → is_ascii_digit b ≡ false
    → piece_of (b ∷ others) ≡ cond (leb 128 b) (lexeme tokens.NotAscii 1) (mark_piece (b ∷ others))
unfolding piece_of
other_piece b others no_gap no_hash no_letter no_digit =
    cond-false (is_white b) (gap 1) _ no_gap ∙ cond-false (eqb b 35) (gap (prefix_len is_comment_byte (b ∷ others))) _ (ne_eqb b 35 no_hash)
    ∙ cond-false (is_ascii_alphabetic b) (word_piece (b ∷ others)) _ no_letter
    ∙ cond-false (is_ascii_digit b) (digits_piece (b ∷ others)) _ no_digit

-- the first byte alone would be a token
letter_is_token : (b : ℕ) → is_ascii_alphabetic b ≡ true → (t : Token) × Spells t (b ∷ [])
letter_is_token b e = go (word_of (b ∷ [])) refl
  where
    go : (found : Option Keyword) → word_of (b ∷ []) ≡ found → (t : Token) × Spells t (b ∷ [])
    go (Some word) is = (tokens.Keyword word, sym (word_is (b ∷ []) word is))
    go None is = (tokens.Name (b ∷ []), ((ap (λ (x : Bool). (x && true) && true) e, is), refl))

digit_is_token : (b : ℕ) → is_ascii_digit b ≡ true → (t : Token) × Spells t (b ∷ [])
digit_is_token b e = go (leb (digits_value 10 (b ∷ [])) 2147483647) refl
  where
    digits : IsDigits (b ∷ [])
    digits = record { some = omega arith; digits = ap (λ (x : Bool). x && true) e }

    go : (small : Bool) → leb (digits_value 10 (b ∷ [])) 2147483647 ≡ small → (t : Token) × Spells t (b ∷ [])
    go true is = (tokens.Int (digits_value 10 (b ∷ [])), (digits, refl, leb-true _ _ is))
    go false is = (tokens.TooBig, (digits, leb-false _ _ is))

nothing_is_bad : (text : List ℕ) → BeginsNothing text → (piece_of text).token ≡ Some tokens.Bad
nothing_is_bad text h =
    let b = h.first in
    let others = h.others in
    let no_letter =
    false_from_ne_true (is_ascii_alphabetic b) (λ e. let t = letter_is_token b e in h.no_token t.0 (b ∷ []) others h.parts t.1) in
    let no_digit = false_from_ne_true (is_ascii_digit b) (λ e. let t = digit_is_token b e in h.no_token t.0 (b ∷ []) others h.parts t.1) in
    let none = no_mark (mark_at (b ∷ others)) refl in
    ap (λ (x : List ℕ). (piece_of x).token) h.parts
    ∙ ap (λ (p : Piece). p.token) (other_piece b others h.no_gap.0 h.no_gap.1 no_letter no_digit
    ∙ cond-false (leb 128 b) (lexeme tokens.NotAscii 1) (mark_piece (b ∷ others)) (lt-leb 128 b h.ascii))
    ∙ ap (λ (found : Option Punct). (unwrap_or
    (option_map (λ (mark : Punct). lexeme (tokens.Punct mark) (length (bytes_of_mark mark))) found) (lexeme tokens.Bad 1)).token) none
  where
    no_mark : (found : Option Punct) → mark_at (h.first ∷ h.others) ≡ found → mark_at (h.first ∷ h.others) ≡ None
    no_mark None e = e
    no_mark (Some m) e =
        absurd (h.no_token (tokens.Punct m) (bytes_of_mark m) (drop (length (bytes_of_mark m)) (h.first ∷ h.others))
        (h.parts ∙ mark_stands (h.first ∷ h.others) m e) refl)

long_run_is_bad : (b : ℕ) (bytes : List ℕ) → is_ascii_alphabetic b ≡ true → 32 < prefix_len is_name_byte (b ∷ bytes)
    → (piece_of (b ∷ bytes)).token ≡ Some tokens.Bad
unfolding piece_of
long_run_is_bad b bytes letter long =
    let above = letter_above b letter in
    ap (λ (p : Piece). p.token)
    (cond-false (is_white b) (gap 1) _ (no_white b (omega arith))
    ∙ cond-false (eqb b 35) (gap (prefix_len is_comment_byte (b ∷ bytes))) _ (no_comment b (omega arith))
    ∙ cond-true (is_ascii_alphabetic b) (word_piece (b ∷ bytes)) _ letter)
    ∙ ap (λ (t : Token). some t) (go (word_of run) refl)
  where
    some : Token → Option Token
    some t = Some t

    run : List ℕ
    run = take_while is_name_byte (b ∷ bytes)

    len : length run ≡ prefix_len is_name_byte (b ∷ bytes)
    len = length-prefix_len is_name_byte (b ∷ bytes)

    go : (found : Option Keyword) → word_of run ≡ found
        → unwrap_or (option_map tokens.Keyword found) (cond (is_identifier_of_name_length run) (tokens.Name run) tokens.Bad) ≡ tokens.Bad
    go (Some word) is = absurd (omega (arith, word_short word, ap length (word_is run word is), len, long))
    go None is =
        cond-false (is_identifier_of_name_length run) (tokens.Name run) tokens.Bad
        (and_right (is_identifier run) (leb (length run) 32) (lt-leb (length run) 32 (omega (arith, len, long))))

long_name_is_bad : (text : List ℕ) → BeginsLongName text → (piece_of text).token ≡ Some tokens.Bad
long_name_is_bad text h = go h.name h.parts h.named h.long
  where
    go : (name : List ℕ) → text ≡ name ++ h.others → is_identifier name ≡ true → 32 < length name → (piece_of text).token ≡ Some tokens.Bad
    go [] parts named long = absurd cc
    go (b ∷ name) parts named long =
        let letter = (and_parts (is_ascii_alphabetic b) (list_all is_name_byte name) named).0 in
        let within = front_within is_name_byte (b ∷ name) h.others (identifier_in_name (b ∷ name) named).1 in
        ap (λ (x : List ℕ). (piece_of x).token) parts ∙ long_run_is_bad b (name ++ h.others) letter (omega (arith, within, long))

letter_behind_is_bad : (text : List ℕ) → BeginsDigitsAndLetter text → (piece_of text).token ≡ Some tokens.Bad
unfolding piece_of
letter_behind_is_bad text h = go h.digits h.parts h.are_digits
  where
    go : (ds : List ℕ) → text ≡ ds ++ h.letter ∷ h.others → IsDigits ds → (piece_of text).token ≡ Some tokens.Bad
    go [] parts digits = absurd (omega (arith, digits.some))
    go (b ∷ ds) parts digits =
        let rest = h.letter ∷ h.others in
        let whole = b ∷ (ds ++ rest) in
        let digit = (and_parts (is_ascii_digit b) (list_all is_ascii_digit ds) digits.digits).0 in
        let above = digit_above b digit in
        let run : prefix_len is_ascii_digit whole ≡ length (b ∷ ds) =
        run_is is_ascii_digit (b ∷ ds) rest digits.digits
        (cond-false (is_ascii_digit h.letter) (1 + prefix_len is_ascii_digit h.others) 0 h.is_letter.1) in
        let names : prefix_len is_name_byte whole ≡ length (b ∷ ds) + prefix_len is_name_byte rest =
        run_behind is_name_byte (b ∷ ds) rest (run_within is_ascii_digit is_name_byte (b ∷ ds) digit_in_name digits.digits) in
        let more : prefix_len is_name_byte rest ≡ 1 + prefix_len is_name_byte h.others =
        cond-true (is_name_byte h.letter) (1 + prefix_len is_name_byte h.others) 0 h.is_letter.0 in
        ap (λ (x : List ℕ). (piece_of x).token) parts
        ∙ ap (λ (p : Piece). p.token)
        (cond-false (is_white b) (gap 1) _ (no_white b above)
        ∙ cond-false (eqb b 35) (gap (prefix_len is_comment_byte whole)) _ (no_comment b above)
        ∙ cond-false (is_ascii_alphabetic b) (word_piece whole) _ (digit_no_letter b digit)
        ∙ cond-true (is_ascii_digit b) (digits_piece whole) _ digit
        ∙ ap (λ (t : Token). lexeme t (prefix_len is_ascii_digit whole)) (cond-false
        (eqb (prefix_len is_name_byte whole) (prefix_len is_ascii_digit whole)) (token_of_digits (take_while is_ascii_digit whole))
        tokens.Bad (ne_eqb _ _ (λ e. omega (arith, run, names, more)))))

not_ascii_is_fault : (text : List ℕ) → BeginsNotAscii text → (piece_of text).token ≡ Some tokens.NotAscii
not_ascii_is_fault text h =
    let b = h.first in
    let above = h.above in
    let no_letter = false_from_ne_true (is_ascii_alphabetic b) (λ e. omega (arith, letter_below b e)) in
    let no_digit = false_from_ne_true (is_ascii_digit b) (λ e. omega (arith, digit_below b e)) in
    ap (λ (x : List ℕ). (piece_of x).token) h.parts
    ∙ ap (λ (p : Piece). p.token) (other_piece b h.others (no_white b (omega arith)) (λ e. omega arith) no_letter no_digit
    ∙ cond-true (leb 128 b) (lexeme tokens.NotAscii 1) (mark_piece (b ∷ h.others)) (le-leb 128 b above))

-- ---- the whole text

fault_is_last : (offset : ℕ) (text : List ℕ) (t : Token) → 0 < length text → (piece_of text).token ≡ Some t → is_fault t ≡ true
    → lexemes_from offset 0 text ≡ record { token = t; start = offset } ∷ []
fault_is_last offset text t some e fault =
    let later = lexemes_from (offset + (piece_of text).len) 0 (drop (piece_of text).len text) in
    lexemes_from-piece offset text some ∙ ap (λ (o : Option Token). lexemes_with offset o later) e
    ∙ ap (λ (b : Bool). record { token = t; start = offset } ∷ cond b [] later) fault

-- a token that stands there is the piece, or the fault
record IsFault (token : Token) (text : List ℕ) : Type 0 where
  fault : is_fault token ≡ true
  some : 0 < length text
  piece : (piece_of text).token ≡ Some token

not_empty : {first : ℕ} {others : List ℕ} (text : List ℕ) → text ≡ first ∷ others → 0 < length text
not_empty text e = omega (arith, ap length e)

bad_some : (text : List ℕ) → BeginsNothing text ⊎ (BeginsLongName text ⊎ BeginsDigitsAndLetter text) → IsFault tokens.Bad text
bad_some text (inl h) = record { fault = refl; some = not_empty text h.parts; piece = nothing_is_bad text h }
bad_some text (inr (inl h)) =
    record { fault = refl; some = omega (arith, ap length h.parts, length-append h.name h.others, h.long); piece = long_name_is_bad text h }
bad_some text (inr (inr h)) =
    record {
      fault =
          refl;
      some =
          omega (arith, ap length h.parts, length-append h.digits (h.letter ∷ h.others), h.are_digits.some);
      piece =
          letter_behind_is_bad text h;
    }

longest_some : (token : Token) (bytes rest : List ℕ) → IsLongest token bytes rest → 0 < length bytes
longest_some token bytes rest h = go (kinds_of_token token bytes h.spelled)
  where
    go : IsWord bytes ⊎ ((m : Punct) × (bytes ≡ bytes_of_mark m)) → 0 < length bytes
    go (inl word) = (word_in_name bytes word).0
    go (inr m) = omega (arith, ap length m.1, mark_len m.0)

stands_is : (token : Token) (bytes rest : List ℕ) → StandsAt token bytes rest
    → ((is_fault token ≡ false) × IsLongest token bytes rest) ⊎ ((bytes ≡ []) × IsFault token rest)
stands_is (tokens.Keyword word) bytes rest h = inl (refl, h)
stands_is (tokens.Punct mark) bytes rest h = inl (refl, h)
stands_is (tokens.Name name) bytes rest h = inl (refl, h)
stands_is (tokens.Int value) bytes rest h = inl (refl, h)
stands_is tokens.TooBig bytes rest h = inl (refl, h)
stands_is tokens.Bad bytes rest h = inr (h.0, bad_some rest h.1)
stands_is tokens.NotAscii bytes rest h =
    inr (h.0, record { fault = refl; some = not_empty rest h.1.parts; piece = not_ascii_is_fault rest h.1 })

abbrev tokens_in : List Lexeme → List Token
tokens_in lexemes = map (λ (l : Lexeme). l.token) lexemes

abbrev starts_in : List Lexeme → List ℕ
starts_in lexemes = map (λ (l : Lexeme). l.start) lexemes

-- the lexemes that the two lists are
abbrev Are : List Lexeme → List Token → List ℕ → Type 0
Are ls ts ss = (tokens_in ls ≡ ts) × (starts_in ls ≡ ss)

is_only : (ts : List Token) (ss : List ℕ) (offset : ℕ) (text : List ℕ) → CutsInto offset text ts ss → Are (lexemes_from offset 0 text) ts ss
unfolding lexemes_from
is_only [] [] offset text h =
    let ended : lexemes_from offset 0 text ≡ [] = ap (lexemes_from offset 0) (sym (append-nil text)) ∙ gap_is_passed [] offset text h in
    (ap tokens_in ended, ap starts_in ended)
is_only [] (s ∷ ss) offset text h = absurd h
is_only (t ∷ ts) [] offset text h = absurd h
is_only (t ∷ ts) (s ∷ ss) offset text h =
    subst (λ (ls : List Lexeme). Are ls (t ∷ ts) (s ∷ ss)) (sym passed)
    (go (is_only ts ss (s + length h.0) h.1) (stands_is t h.0 h.1 h.2.stands))
  where
    front : List ℕ
    front = h.0 ++ h.1

    passed : lexemes_from offset 0 text ≡ lexemes_from s 0 front
    passed =
        ap (lexemes_from offset 0) h.2.parts ∙ gap_is_passed front offset h.2.gap h.2.is_gap
        ∙ ap (λ (n : ℕ). lexemes_from n 0 front) (sym h.2.start_is)

    token : (is_fault t ≡ false) → IsLongest t h.0 h.1 → Are (lexemes_from (s + length h.0) 0 h.1) ts ss
        → Are (lexemes_from s 0 front) (t ∷ ts) (s ∷ ss)
    token no_fault longest others =
        let n = length h.0 in
        let some : 0 < length front = omega (arith, longest_some t h.0 h.1 longest, length-append h.0 h.1) in
        let later = lexemes_from (s + n) 0 (drop n front) in
        let step : lexemes_from s 0 front ≡ record { token = t; start = s } ∷ lexemes_from (s + n) 0 h.1 =
        lexemes_from-piece s front some
        ∙ ap (λ (p : Piece). lexemes_with s p.token (lexemes_from (s + p.len) 0 (drop p.len front)))
        (longest_is_piece t h.0 h.1 longest)
        ∙ ap (λ (b : Bool). record { token = t; start = s } ∷ cond b [] later) no_fault
        ∙ ap (λ (x : List ℕ). record { token = t; start = s } ∷ lexemes_from (s + n) 0 x) (drop_at h.0 h.1 n refl) in
        (ap tokens_in step ∙ ap (λ (us : List Token). t ∷ us) others.0, ap starts_in step ∙ ap (λ (ns : List ℕ). s ∷ ns) others.1)

    go : (CutsInto (s + length h.0) h.1 ts ss → Are (lexemes_from (s + length h.0) 0 h.1) ts ss)
        → ((is_fault t ≡ false) × IsLongest t h.0 h.1) ⊎ ((h.0 ≡ []) × IsFault t h.1) → Are (lexemes_from s 0 front) (t ∷ ts) (s ∷ ss)
    go others (inl k) = token k.0 k.1 (others (when_false _ _ k.0 h.3))
    go others (inr k) =
        let ended = when_true _ _ k.1.fault h.3 in
        let whole : front ≡ h.1 = ap (λ (x : List ℕ). x ++ h.1) k.0 in
        let last : lexemes_from s 0 front ≡ record { token = t; start = s } ∷ [] =
        ap (lexemes_from s 0) whole ∙ fault_is_last s h.1 t k.1.some k.1.piece k.1.fault in
        (ap tokens_in last ∙ ap (λ (us : List Token). t ∷ us) (sym ended.0), ap starts_in last ∙ ap (λ (ns : List ℕ). s ∷ ns) (sym ended.1))

pub only_tokens : (text : List ℕ) (ts : List Token) (ss : List ℕ) → CutsInto 0 text ts ss → ts ≡ tokens_of text
only_tokens text ts ss h = sym (is_only ts ss 0 text h).0

pub only_starts : (text : List ℕ) (ts : List Token) (ss : List ℕ) → CutsInto 0 text ts ss → ss ≡ starts_of text
only_starts text ts ss h = sym (is_only ts ss 0 text h).1
