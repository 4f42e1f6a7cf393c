-- The first piece of a text is its longest token, or the fault that stands there.
use Rattle.std.proofs.Common.{◌≡◌, ℕ, zero, suc, ◌+◌, ◌<◌, ◌≤◌, Bool, true, false, cond, eqb, leb, List, [], ◌∷◌, ◌++◌, length}
use Rattle.std.proofs.Common.{take, drop, Option, Some, None, refl, sym, ap, ◌∙◌, subst, inl, inr, arith, take-append-drop}
use Rattle.std.specs.Prelude.{◌⊎◌, take_while, unwrap_or}
use Rattle.std.specs.Option.{option_map}
use Rattle.std.specs.Str.Parse.{digits_value}
use Rattle.std.specs.Char.{is_ascii_alphabetic, is_ascii_digit}
use Rattle.std.specs.List.{prefix_len, list_all}
use Rattle.std.proofs.lemmas.Bool.{cond-true, cond-false, cond_both, and_parts, and_from, and_cases, leb-true, leb-false}
use Rattle.std.proofs.lemmas.Bool.{eqb-true, eqb-false, both_ways}
use Rattle.std.proofs.lemmas.List.{append-nil, take_at}
use Rattle.std.proofs.lemmas.List.Folds.{length-prefix_len}
use Rattle.pipe_tokens.specs.declared.token.Token.{Token}
use Rattle.pipe_tokens.specs.declared.token.Token.TheVariants as tokens
use Rattle.pipe_tokens.specs.declared.token.Keyword.{Keyword}
use Rattle.pipe_tokens.specs.declared.token.Punct.{Punct}
use Rattle.pipe_tokens.specs.declared.piece.Piece.{Piece}
use Rattle.pipe_tokens.specs.Character.{is_comment_byte, is_name_byte}
use Rattle.pipe_tokens.specs.Naming.{is_identifier, is_identifier_of_name_length}
use Rattle.pipe_tokens.specs.Spelled.{word_of, bytes_of_mark, mark_at}
use Rattle.pipe_tokens.specs.Lexing.{lexeme, token_of_word, token_of_digits, piece_from, piece_of, is_fault}
use Rattle.pipe_tokens.specs.Cutting.{Gap, white, comment, IsDigits, Spells, IsLongest, BeginsNothing, BeginsDigitsAndLetter, StandsAt}
use Rattle.pipe_tokens.proofs.Symbols.{word_is_identifier, mark_is_piece, mark_stops}
use Rattle.pipe_tokens.proofs.PieceKinds.{IsOther, Kind, at_white, at_comment, at_letter, at_digit, at_not_ascii, at_other, kind_of}
use Rattle.pipe_tokens.proofs.Characters.{letter_in_name, digit_in_name}
use Rattle.pipe_tokens.proofs.Pieces.{mark_stands}
use Rattle.pipe_tokens.proofs.Runs.{run_stops, run_passes, run_within}
use Rattle.pipe_tokens.proofs.Shortest.{word_is}

abbrev some_token : Token → Option Token
some_token token = Some token

-- ---- runs

-- a front that passes is within the run
pub front_within : (p : ℕ → Bool) (front back : List ℕ) → list_all p front ≡ true → length front ≤ prefix_len p (front ++ back)
front_within p [] back all = omega arith
front_within p (b ∷ front) back all =
    let parts = and_parts (p b) (list_all p front) all in
    omega (arith, cond-true (p b) (1 + prefix_len p (front ++ back)) 0 parts.0, front_within p front back parts.1)

-- behind a front that passes the run goes on
pub run_behind : (p : ℕ → Bool) (front back : List ℕ) → list_all p front ≡ true
    → prefix_len p (front ++ back) ≡ length front + prefix_len p back
run_behind p [] back all = omega arith
run_behind p (b ∷ front) back all =
    let parts = and_parts (p b) (list_all p front) all in
    omega (arith, cond-true (p b) (1 + prefix_len p (front ++ back)) 0 parts.0, run_behind p front back parts.1)

-- a run is not empty where the first byte passes
run_first : (p : ℕ → Bool) (text : List ℕ) → 0 < prefix_len p text → (b : ℕ) × (others : List ℕ) × (text ≡ b ∷ others) × (p b ≡ true)
run_first p [] some = absurd (omega arith)
run_first p (b ∷ others) some = (b, others, refl, go (p b) refl)
  where
    go : (x : Bool) → p b ≡ x → p b ≡ true
    go true e = e
    go false e = absurd (omega (arith, cond-false (p b) (1 + prefix_len p others) 0 e))

run_starts : (p : ℕ → Bool) (b : ℕ) (bytes : List ℕ) → p b ≡ true → 0 < prefix_len p (b ∷ bytes)
run_starts p b bytes e = let run = cond-true (p b) (1 + prefix_len p bytes) 0 e in omega arith

pub identifier_in_name : (bytes : List ℕ) → is_identifier bytes ≡ true → (0 < length bytes) × (list_all is_name_byte bytes ≡ true)
identifier_in_name [] e = absurd cc
identifier_in_name (b ∷ bytes) e =
    let parts = and_parts (is_ascii_alphabetic b) (list_all is_name_byte bytes) e in
    (omega arith, and_from (is_name_byte b) (list_all is_name_byte bytes) (letter_in_name b parts.0) parts.1)

pub named_identifier : (name : List ℕ) → is_identifier_of_name_length name ≡ true → is_identifier name ≡ true
named_identifier name e = (and_parts (is_identifier name) (leb (length name) 32) e).0

-- ---- what begins as the text does

-- a name, a word or a number
abbrev pub IsWord : List ℕ → Type 0
IsWord front = (is_identifier front ≡ true) ⊎ IsDigits front

-- the tokens that a front can be
pub kinds_of_token : (other : Token) (front : List ℕ) → Spells other front → IsWord front ⊎ ((m : Punct) × (front ≡ bytes_of_mark m))
kinds_of_token (tokens.Keyword word) front h = inl (inl (ap is_identifier h ∙ word_is_identifier word))
kinds_of_token (tokens.Punct mark) front h = inr (mark, h)
kinds_of_token (tokens.Name name) front h = inl (inl (ap is_identifier h.1 ∙ named_identifier name h.0.0))
kinds_of_token (tokens.Int value) front h = inl (inr h.0)
kinds_of_token tokens.TooBig front h = inl (inr h.0)
kinds_of_token tokens.Bad front h = absurd h
kinds_of_token tokens.NotAscii front h = absurd h

pub word_in_name : (front : List ℕ) → IsWord front → (0 < length front) × (list_all is_name_byte front ≡ true)
word_in_name front (inl e) = identifier_in_name front e
word_in_name front (inr d) = (d.some, run_within is_ascii_digit is_name_byte front digit_in_name d.digits)

-- where a text begins with a name byte, no token is longer than its run of these
within_run : (text : List ℕ) (other : Token) (front back : List ℕ) → 0 < prefix_len is_name_byte text → text ≡ front ++ back
    → Spells other front → length front ≤ prefix_len is_name_byte text
within_run text other front back some e h = go (kinds_of_token other front h)
  where
    go : IsWord front ⊎ ((m : Punct) × (front ≡ bytes_of_mark m)) → length front ≤ prefix_len is_name_byte text
    go (inl word) = omega (arith, front_within is_name_byte front back (word_in_name front word).1, ap (prefix_len is_name_byte) e)
    go (inr m) = absurd (omega (arith, ap (prefix_len is_name_byte) (e ∙ ap (λ (x : List ℕ). x ++ back) m.1), mark_stops m.0 back))

-- a mark that a text begins with is its piece
same_piece : (text : List ℕ) (m : Punct) (front back : List ℕ) → text ≡ front ++ back → front ≡ bytes_of_mark m
    → piece_of text ≡ lexeme (tokens.Punct m) (length (bytes_of_mark m))
same_piece text m front back e is = ap piece_of (e ∙ ap (λ (x : List ℕ). x ++ back) is) ∙ mark_is_piece m back

-- ---- words

module _ (b : ℕ) (bytes : List ℕ) where
  abbrev pub text : List ℕ
  text = b ∷ bytes

  word_longest : (token : Token) (n : ℕ) → 0 < prefix_len is_name_byte text → prefix_len is_name_byte text ≡ n → Spells token (take n text)
      → IsLongest token (take n text) (drop n text)
  word_longest token n some run spelled =
      let whole = take-append-drop n text in
      let len : length (take n text) ≡ n = subst (λ (k : ℕ). length (take k text) ≡ k) run (length-prefix_len is_name_byte text) in
      record {
        spelled = spelled;
        longest = λ other front back e h. omega (arith, within_run text other front back some (sym whole ∙ e) h, run, len);
        parted = λ _. ap (λ (k : ℕ). prefix_len is_name_byte (drop k text)) (sym run) ∙ run_stops is_name_byte text;
      }

  -- what a token's place is, by the bytes that the piece has
  abbrev pub Stands : Token → ℕ → Type 0
  Stands token n = (is_fault token ≡ false → StandsAt token (take n text) (drop n text)) × (is_fault token ≡ true → StandsAt token [] text)

  fault_stands : (token : Token) (n : ℕ) → is_fault token ≡ true → StandsAt token [] text → Stands token n
  fault_stands token n e h = (λ no_fault. absurd (both_ways (is_fault token) no_fault e), λ _. h)

  run_is_identifier : is_ascii_alphabetic b ≡ true → is_identifier (take_while is_name_byte text) ≡ true
  run_is_identifier e =
      let run : prefix_len is_name_byte text ≡ suc (prefix_len is_name_byte bytes) =
      cond-true (is_name_byte b) (1 + prefix_len is_name_byte bytes) 0 (letter_in_name b e) ∙ omega arith in
      ap (λ (n : ℕ). is_identifier (take n text)) run ∙ and_from (is_ascii_alphabetic b) _ e (run_passes is_name_byte bytes)

  word_stands : is_ascii_alphabetic b ≡ true → Stands (token_of_word (take_while is_name_byte text)) (prefix_len is_name_byte text)
  word_stands e = go (word_of run) refl
    where
      run : List ℕ
      run = take_while is_name_byte text

      some : 0 < prefix_len is_name_byte text
      some = run_starts is_name_byte b bytes (letter_in_name b e)

      named : is_identifier run ≡ true
      named = run_is_identifier e

      parts : text ≡ run ++ drop (prefix_len is_name_byte text) text
      parts = sym (take-append-drop (prefix_len is_name_byte text) text)

      go : (found : Option Keyword) → word_of run ≡ found
          → Stands (unwrap_or (option_map tokens.Keyword found) (cond (is_identifier_of_name_length run) (tokens.Name run) tokens.Bad))
          (prefix_len is_name_byte text)
      go (Some word) is =
          (λ _. word_longest (tokens.Keyword word) (prefix_len is_name_byte text) some refl (sym (word_is run word is)), λ fault. absurd cc)
      go None is =
          cond_both (is_identifier_of_name_length run) (tokens.Name run) tokens.Bad (λ (t : Token). Stands t (prefix_len is_name_byte text))
          (λ short. (λ _. word_longest (tokens.Name run) (prefix_len is_name_byte text) some refl ((short, is), refl), λ fault. absurd cc))
          (λ long. fault_stands tokens.Bad (prefix_len is_name_byte text) refl (
            refl,
            inr (inl (record
                { name = run; others = drop (prefix_len is_name_byte text) text; parts = parts; named = named; long = long_of long })),
          ))
        where
          long_of : is_identifier_of_name_length run ≡ false → 32 < length run
          long_of fails =
              elim (and_cases (is_identifier run) (leb (length run) 32) fails)
              [ inl h ↦ absurd (both_ways (is_identifier run) h named) | inr h ↦ leb-false (length run) 32 h ]

  -- ---- digits

  pub digits_stand : is_ascii_digit b ≡ true
      → Stands (cond (eqb (prefix_len is_name_byte text) (prefix_len is_ascii_digit text))
      (token_of_digits (take_while is_ascii_digit text)) tokens.Bad) (prefix_len is_ascii_digit text)
  digits_stand e =
      cond_both (eqb (prefix_len is_name_byte text) n) (token_of_digits ds) tokens.Bad (λ (t : Token). Stands t n)
      (λ same. number (eqb-true _ _ same))
      (λ differ. fault_stands tokens.Bad n refl (refl, inr (inr (letter_behind (eqb-false _ _ differ)))))
    where
      n : ℕ
      n = prefix_len is_ascii_digit text

      ds : List ℕ
      ds = take_while is_ascii_digit text

      some : 0 < n
      some = run_starts is_ascii_digit b bytes e

      len : length ds ≡ n
      len = length-prefix_len is_ascii_digit text

      are_digits : IsDigits ds
      are_digits = record { some = omega (arith, some, len); digits = run_passes is_ascii_digit text }

      names : 0 < prefix_len is_name_byte text
      names = run_starts is_name_byte b bytes (digit_in_name b e)

      number : prefix_len is_name_byte text ≡ n → Stands (token_of_digits ds) n
      number same =
          cond_both (leb (digits_value 10 ds) 2147483647) (tokens.Int (digits_value 10 ds)) tokens.TooBig (λ (t : Token). Stands t n)
          (λ small. (
            λ _. word_longest (tokens.Int (digits_value 10 ds)) n names same (are_digits, refl, leb-true _ _ small),
            λ fault. absurd cc,
          ))
          (λ big. (λ _. word_longest tokens.TooBig n names same (are_digits, leb-false _ _ big), λ fault. absurd cc))

      letter_behind : (prefix_len is_name_byte text ≡ n → ⊥) → BeginsDigitsAndLetter text
      letter_behind differ =
          let whole : ds ++ drop n text ≡ text = take-append-drop n text in
          let behind : prefix_len is_name_byte text ≡ length ds + prefix_len is_name_byte (drop n text) =
          ap (prefix_len is_name_byte) (sym whole)
          ∙ run_behind is_name_byte ds (drop n text) (run_within is_ascii_digit is_name_byte ds digit_in_name are_digits.digits) in
          let first =
          run_first is_name_byte (drop n text) (elim (zero_or_more (prefix_len is_name_byte (drop n text)))
          [ inl none ↦ absurd (differ (omega (arith, behind, len))) | inr more ↦ more ]) in
          record {
            digits = ds;
            letter = first.0;
            others = first.1;
            parts = sym whole ∙ ap (λ (x : List ℕ). ds ++ x) first.2;
            are_digits = are_digits;
            is_letter = (first.3, no_digit first.0 first.1 (sym (ap (prefix_len is_ascii_digit) first.2) ∙ run_stops is_ascii_digit text));
          }
        where
          zero_or_more : (k : ℕ) → (k ≡ 0) ⊎ (0 < k)
          zero_or_more zero = inl refl
          zero_or_more (suc k) = inr (omega arith)

          no_digit : (c : ℕ) (cs : List ℕ) → prefix_len is_ascii_digit (c ∷ cs) ≡ 0 → is_ascii_digit c ≡ false
          no_digit c cs none = go (is_ascii_digit c) refl
            where
              go : (x : Bool) → is_ascii_digit c ≡ x → is_ascii_digit c ≡ false
              go true is = absurd (omega (arith, run_starts is_ascii_digit c cs is))
              go false is = is

  -- ---- marks

  mark_longest : (m : Punct) → text ≡ bytes_of_mark m ++ drop (length (bytes_of_mark m)) text
      → IsLongest (tokens.Punct m) (take (length (bytes_of_mark m)) text) (drop (length (bytes_of_mark m)) text)
  mark_longest m at =
      let n = length (bytes_of_mark m) in
      let front-is : take n text ≡ bytes_of_mark m = ap (take n) at ∙ take_at (bytes_of_mark m) (drop n text) n refl in
      let whole = take-append-drop n text in
      record {
        spelled = front-is;
        longest =
            λ other front back e h. subst (λ (x : List ℕ). length front ≤ length x) (sym front-is)
            (within other front back (sym whole ∙ e) (kinds_of_token other front h));
        parted = λ some. absurd (omega (arith, some, ap (prefix_len is_name_byte) front-is, mark_alone));
      }
    where
      mark_alone : prefix_len is_name_byte (bytes_of_mark m) ≡ 0
      mark_alone = ap (prefix_len is_name_byte) (sym (append-nil (bytes_of_mark m))) ∙ mark_stops m []

      no_run : prefix_len is_name_byte text ≡ 0
      no_run = ap (prefix_len is_name_byte) at ∙ mark_stops m (drop (length (bytes_of_mark m)) text)

      within : (other : Token) (front back : List ℕ) → text ≡ front ++ back → IsWord front ⊎ ((k : Punct) × (front ≡ bytes_of_mark k))
          → length front ≤ length (bytes_of_mark m)
      within other front back e (inl word) =
          absurd (omega (
            arith,
            (word_in_name front word).0,
            front_within is_name_byte front back (word_in_name front word).1,
            ap (prefix_len is_name_byte) e,
            no_run,
          ))
      within other front back e (inr k) =
          let one = same_piece text m (bytes_of_mark m) (drop (length (bytes_of_mark m)) text) at refl in
          let two = same_piece text k.0 front back e k.1 in
          let same : length (bytes_of_mark m) ≡ length (bytes_of_mark k.0) = ap (λ (p : Piece). p.len) (sym one ∙ two) in
          omega (arith, same, ap length k.1)

  pub nothing_begins : IsOther b → piece_of text ≡ lexeme tokens.Bad 1 → BeginsNothing text
  nothing_begins other bad = record {
    first = b;
    others = bytes;
    parts = refl;
    ascii = other.ascii;
    no_gap = (other.white, other.comment);
    no_token = λ token front back e h. none front back e (kinds_of_token token front h);
  }
    where
      none : (front back : List ℕ) → text ≡ front ++ back → IsWord front ⊎ ((k : Punct) × (front ≡ bytes_of_mark k)) → ⊥
      none front back e (inr k) =
          let two : lexeme tokens.Bad 1 ≡ lexeme (tokens.Punct k.0) (length (bytes_of_mark k.0)) =
          sym bad ∙ same_piece text k.0 front back e k.1 in
          let token : some_token tokens.Bad ≡ some_token (tokens.Punct k.0) = ap (λ (p : Piece). p.token) two in
          cc
      none [] back e (inl (inl named)) = absurd cc
      none (c ∷ front) back e (inl (inl named)) =
          let same : b ≡ c = cc in
          both_ways (is_ascii_alphabetic b) other.letter
          (ap is_ascii_alphabetic same ∙ (and_parts (is_ascii_alphabetic c) (list_all is_name_byte front) named).0)
      none [] back e (inl (inr digits)) = absurd (omega (arith, digits.some))
      none (c ∷ front) back e (inl (inr digits)) =
          let same : b ≡ c = cc in
          both_ways (is_ascii_digit b) other.digit
          (ap is_ascii_digit same ∙ (and_parts (is_ascii_digit c) (list_all is_ascii_digit front) digits.digits).0)

  -- ---- the piece

  abbrev pub IfStands : Option Token → ℕ → Type 0
  IfStands None n = Unit {0}
  IfStands (Some token) n = Stands token n

  mark_stands_there : IsOther b → (found : Option Punct) → mark_at text ≡ found
      → piece_of text
      ≡ unwrap_or (option_map (λ (mark : Punct). lexeme (tokens.Punct mark) (length (bytes_of_mark mark))) found) (lexeme tokens.Bad 1)
      → (let piece : Piece =
      unwrap_or (option_map (λ (mark : Punct). lexeme (tokens.Punct mark) (length (bytes_of_mark mark))) found) (lexeme tokens.Bad 1) in
      IfStands piece.token piece.len)
  mark_stands_there other None e piece = fault_stands tokens.Bad 1 refl (refl, inl (nothing_begins other piece))
  mark_stands_there other (Some m) e piece = (λ _. mark_longest m (mark_stands text m e), λ fault. absurd cc)

  kind_stands : (piece : Piece) → piece_of text ≡ piece → Kind b text piece → IfStands piece.token piece.len
  kind_stands _ is (at_white e) = tt
  kind_stands _ is (at_comment e) = tt
  kind_stands _ is (at_letter e) = word_stands e
  kind_stands _ is (at_digit e) = digits_stand e
  kind_stands _ is (at_not_ascii e) =
      fault_stands tokens.NotAscii 1 refl (refl, record { first = b; others = bytes; parts = refl; above = e })
  kind_stands _ is (at_other e) = mark_stands_there e (mark_at text) refl is

  -- the piece of a text is what stands there
  pub stands : IfStands (piece_of text).token (piece_of text).len
  unfolding piece_of
  stands = kind_stands (piece_from b text) refl (kind_of b text)

  -- ---- a gap's piece

  -- bytes of a gap, with a gap behind them
  abbrev pub IfGap : Option Token → ℕ → Type 0
  IfGap (Some token) n = Unit {0}
  IfGap None n = (gap rest : List ℕ) → drop n text ≡ gap ++ rest → Gap rest gap → Gap rest (take n text ++ gap)

  mark_no_gap : (found : Option Punct)
      → (let piece : Piece =
      unwrap_or (option_map (λ (mark : Punct). lexeme (tokens.Punct mark) (length (bytes_of_mark mark))) found) (lexeme tokens.Bad 1) in
      IfGap piece.token piece.len)
  mark_no_gap None = tt
  mark_no_gap (Some m) = tt

  comment_gap : b ≡ 35 → (n : ℕ) → prefix_len is_comment_byte text ≡ n → (gap rest : List ℕ) → drop n text ≡ gap ++ rest → Gap rest gap
      → Gap rest (take n text ++ gap)
  comment_gap e n run gap rest behind h =
      let body = take (prefix_len is_comment_byte bytes) bytes in
      let more : prefix_len is_comment_byte text ≡ suc (prefix_len is_comment_byte bytes) =
      cond-true (is_comment_byte b) (1 + prefix_len is_comment_byte bytes) 0 (subst (λ (c : ℕ). is_comment_byte c ≡ true) (sym e) refl)
      ∙ omega arith in
      let front : take n text ≡ 35 ∷ body = ap (λ (k : ℕ). take k text) (sym run ∙ more) ∙ ap (λ (c : ℕ). c ∷ body) e in
      let ended : prefix_len is_comment_byte (gap ++ rest) ≡ 0 =
      ap (prefix_len is_comment_byte) (sym behind) ∙ ap (λ (k : ℕ). prefix_len is_comment_byte (drop k text)) (sym run)
      ∙ run_stops is_comment_byte text in
      subst (λ (x : List ℕ). Gap rest (x ++ gap)) (sym front) (comment body gap (run_passes is_comment_byte bytes) ended h)

  kind_gap : (piece : Piece) → Kind b text piece → IfGap piece.token piece.len
  kind_gap _ (at_white e) = λ gap rest behind h. white b gap e h
  kind_gap _ (at_comment e) = comment_gap e (prefix_len is_comment_byte text) refl
  kind_gap _ (at_letter e) = tt
  kind_gap _ (at_digit e) = tt
  kind_gap _ (at_not_ascii e) = tt
  kind_gap _ (at_other e) = mark_no_gap (mark_at text)

  pub gap_goes_on : IfGap (piece_of text).token (piece_of text).len
  unfolding piece_of
  gap_goes_on = kind_gap (piece_from b text) (kind_of b text)
