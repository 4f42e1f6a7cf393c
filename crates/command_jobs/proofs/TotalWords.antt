-- The words of a line of totals, and the bytes that are in none of them.
use Rattle.std.proofs.Common.{◌≡◌, ◌≢◌, ◌∙◌, ℕ, ℤ, suc, pos, negsuc, ◌+◌, ◌<◌, ◌≤◌, ◌==◌, ◌++◌, Bool, false, true, not, if◌then◌else◌, List, [], ◌∷◌, Some, None, FitsSigned, w64, ap, arith, cond, drop, inl, inr, length, map, position, refl, subst, sym}
use Rattle.std.specs.Prelude.{◌⊎◌, All, neg_ℤ, nat_le, nat_lt, IsTrue}
use Rattle.std.specs.Fmt.{decimal, signed_decimal}
use Rattle.std.specs.List.{flat_map, list_all, position_or_len}
use Rattle.std.specs.Char.{is_ascii_alphabetic}
use Rattle.std.specs.Str.Parse.{AllDigits, IsNumeral, digits_value, starts_with_minus}
use Rattle.std.proofs.lemmas.Bool.{and_parts, both_ways, eq-eqb, lt-ltb}
use Rattle.std.proofs.lemmas.Bool.Decides.{eqb_tells}
use Rattle.std.proofs.lemmas.Fmt.{decimal_is_IsNumeral}
use Rattle.std.proofs.lemmas.List.{append-nil, length-append}
use Rattle.std.proofs.lemmas.List.Elements.{All-nil, All-cons, All-append, All-head, All-tail, All-weaker}
use Rattle.std.proofs.lemmas.List.Splits.{slice_split_at, slice_split_none}
use Rattle.std.proofs.lemmas.List.Sums.{AllPass-from_list_all}
use Rattle.std.proofs.lemmas.Str.Parse.{digit_from_value}
use Rattle.domains.specs.Span.{Ends}
use Rattle.pipe_tokens.specs.Character.{is_name_byte}
use Rattle.pipe_tokens.specs.Naming.{is_identifier, is_identifier_of_name_length}
use Rattle.tables.specs.Entries.{AreIndices}
use Rattle.tables.specs.Lines.{SpellEnds, SpellIntegers, SpellSpan, SpellsInteger, parts}
use Rattle.command_jobs.specs.Results.{bin_text}

-- ---- bytes that a word lacks

abbrev pub Lacks : ℕ → List ℕ → Type 0
Lacks byte word = All (λ b. (b == byte) ≡ false) word

differs : (b byte : ℕ) → b ≢ byte → (b == byte) ≡ false
differs b byte other = elim (eqb_tells b byte) [ inl e ↦ absurd (other e.1) | inr e ↦ e.0 ]

-- before the digits, and no minus, or after them
pub record IsInNoNumber (byte : ℕ) : Type 0 where
  pub outside : (byte < 48) ⊎ (57 < byte)
  pub no_minus : 45 ≢ byte

no_digit : (b byte : ℕ) → (byte < 48) ⊎ (57 < byte) → (48 ≤ b) × (b ≤ 57) → b ≢ byte
no_digit b byte (inl low) digit e = omega (arith, low, digit.0, digit.1, e)
no_digit b byte (inr high) digit e = omega (arith, high, digit.0, digit.1, e)

digits_lack : (byte : ℕ) (digits : List ℕ) → (byte < 48) ⊎ (57 < byte) → AllDigits 10 digits → Lacks byte digits
digits_lack byte [] out are = All-nil (λ b. (b == byte) ≡ false)
digits_lack byte (b ∷ digits) out are =
    All-cons (λ b. (b == byte) ≡ false) b digits (differs b byte (no_digit b byte out (digit_from_value b are.0))) (digits_lack byte digits out are.1)

pub number_lacks : (byte : ℕ) (z : ℤ) → IsInNoNumber byte → FitsSigned w64 z → Lacks byte (signed_decimal z)
number_lacks byte (pos n) out fits = digits_lack byte (decimal n) out.outside (decimal_is_IsNumeral n (omega (arith, fits))).0.1
number_lacks byte (negsuc n) out fits =
    All-cons (λ b. (b == byte) ≡ false) 45 (decimal (suc n)) (differs 45 byte out.no_minus)
    (digits_lack byte (decimal (suc n)) out.outside (decimal_is_IsNumeral (suc n) (omega (arith, fits))).0.1)

passing_lack : (byte : ℕ) (p : ℕ → Bool) (word : List ℕ) → p byte ≡ false → All (λ b. p b ≡ true) word → Lacks byte word
passing_lack byte p word fails each =
    All-weaker (λ b. p b ≡ true) (λ b. (b == byte) ≡ false)
    (λ b passes. differs b byte (λ e. both_ways (p b) (ap p e ∙ fails) passes)) word each

pub name_lacks : (byte : ℕ) (name : List ℕ) → is_name_byte byte ≡ false → is_ascii_alphabetic byte ≡ false
    → IsTrue (is_identifier_of_name_length name) → Lacks byte name
name_lacks byte [] other letter named = All-nil (λ b. (b == byte) ≡ false)
name_lacks byte (b ∷ name) other letter named =
    let whole = and_parts (is_identifier (b ∷ name)) (nat_le (length (b ∷ name)) 32) named in
    let parts = and_parts (is_ascii_alphabetic b) (list_all is_name_byte name) whole.0 in
    All-cons (λ b. (b == byte) ≡ false) b name
    (differs b byte (λ e. both_ways (is_ascii_alphabetic b) (ap is_ascii_alphabetic e ∙ letter) parts.0))
    (passing_lack byte is_name_byte name other (AllPass-from_list_all is_name_byte name parts.1))

-- ---- a text that is split

-- the first part
pub first_part : (byte : ℕ) (word rest : List ℕ) → Lacks byte word → parts byte (word ++ byte ∷ rest) ≡ word ∷ parts byte rest
first_part byte word rest lack = slice_split_at (λ b. b == byte) word byte rest lack (eq-eqb byte byte refl)

-- the one part
pub one_part : (byte : ℕ) (word : List ℕ) → Lacks byte word → parts byte word ≡ word ∷ []
one_part byte word lack = slice_split_none (λ b. b == byte) word lack

first_byte : (byte : ℕ) (word rest : List ℕ) → Lacks byte word → position_or_len (λ b. b == byte) (word ++ byte ∷ rest) ≡ length word
first_byte byte [] rest lack = ap (λ (t : Bool). cond (not t) (1 + position_or_len (λ b. b == byte) rest) 0) (eq-eqb byte byte refl)
first_byte byte (b ∷ word) rest lack =
    ap (λ (t : Bool). cond (not t) (1 + position_or_len (λ b. b == byte) (word ++ byte ∷ rest)) 0) (All-head (λ b. (b == byte) ≡ false) b word lack)
    ∙ omega (arith, first_byte byte word rest (All-tail (λ b. (b == byte) ≡ false) b word lack))

-- where the first such byte is
pub first_place : (byte : ℕ) (word rest : List ℕ) → Lacks byte word → position (λ b. b == byte) (word ++ byte ∷ rest) ≡ Some (length word)
first_place byte word rest lack =
    let text = word ++ byte ∷ rest in
    let at = first_byte byte word rest lack in
    ap (λ (n : ℕ). cond (nat_lt n (length text)) (Some n) None) at
    ∙ ap (λ (t : Bool). cond t (Some (length word)) None)
    (lt-ltb (length word) (length text) (omega (arith, length-append word (byte ∷ rest))))

-- ---- numbers

no_minus_first : (digits : List ℕ) → IsNumeral 10 digits → starts_with_minus digits ≡ false
no_minus_first [] are = absurd (omega (arith, are.0))
no_minus_first (b ∷ digits) are = differs b 45 (λ e. let digit = digit_from_value b are.1.0 in omega (arith, digit.0, e))

spelled_without_minus : (word : List ℕ) (z : ℤ) → starts_with_minus word ≡ false → IsNumeral 10 word
    → z ≡ pos (digits_value 10 word) → FitsSigned w64 z → SpellsInteger word z
spelled_without_minus word z none digits value fits = record {
  digits = subst (λ (minus : Bool). IsNumeral 10 (if minus then drop 1 word else word)) (sym none) digits;
  value =
      value
      ∙ ap (λ (minus : Bool). let rest = if minus then drop 1 word else word in if minus then neg_ℤ (pos (digits_value 10 rest)) else pos (digits_value 10 rest))
      (sym none);
  fits = fits;
}

pub number_spelled : (z : ℤ) → FitsSigned w64 z → SpellsInteger (signed_decimal z) z
number_spelled (pos n) fits =
    let is = decimal_is_IsNumeral n (omega (arith, fits)) in
    spelled_without_minus (decimal n) (pos n) (no_minus_first (decimal n) is.0) is.0 (ap pos (sym is.1)) fits
number_spelled (negsuc n) fits =
    let is = decimal_is_IsNumeral (suc n) (omega (arith, fits)) in
    record { digits = is.0; value = ap (λ (m : ℕ). neg_ℤ (pos m)) (sym is.1); fits = fits }

pub numbers_spelled : (zs : List ℤ) → All (FitsSigned w64) zs → SpellIntegers (map signed_decimal zs) zs
numbers_spelled [] fit = tt
numbers_spelled (z ∷ zs) fit =
    (number_spelled z (All-head (FitsSigned w64) z zs fit), numbers_spelled zs (All-tail (FitsSigned w64) z zs fit))

-- ---- the words of a line

pub blank : IsInNoNumber 32
blank = record { outside = inl (omega arith); no_minus = λ e. omega (arith, e) }

dot : IsInNoNumber 46
dot = record { outside = inl (omega arith); no_minus = λ e. omega (arith, e) }

colon : IsInNoNumber 58
colon = record { outside = inr (omega arith); no_minus = λ e. omega (arith, e) }

pub line_feed : IsInNoNumber 10
line_feed = record { outside = inl (omega arith); no_minus = λ e. omega (arith, e) }

-- a word and the bins after it
pub bin_words : (word : List ℕ) (bins : List ℤ) → Lacks 32 word → All (FitsSigned w64) bins
    → parts 32 (word ++ flat_map bin_text bins) ≡ word ∷ map signed_decimal bins
bin_words word [] lack fit = ap (parts 32) (append-nil word) ∙ one_part 32 word lack
bin_words word (z ∷ bins) lack fit =
    first_part 32 word (signed_decimal z ++ flat_map bin_text bins) lack
    ∙ ap (λ (ws : List (List ℕ)). word ∷ ws)
    (bin_words (signed_decimal z) bins (number_lacks 32 z blank (All-head (FitsSigned w64) z bins fit)) (All-tail (FitsSigned w64) z bins fit))

-- no bin has a line feed
pub bins_lack : (bins : List ℤ) → All (FitsSigned w64) bins → Lacks 10 (flat_map bin_text bins)
bins_lack [] fit = All-nil (λ b. (b == 10) ≡ false)
bins_lack (z ∷ bins) fit =
    All-append (λ b. (b == 10) ≡ false) (bin_text z) (flat_map bin_text bins)
    (All-cons (λ b. (b == 10) ≡ false) 32 (signed_decimal z) refl (number_lacks 10 z line_feed (All-head (FitsSigned w64) z bins fit)))
    (bins_lack bins (All-tail (FitsSigned w64) z bins fit))

-- `LO..HI`, and the same before a colon
abbrev pub dotted : ℤ → ℤ → List ℕ
dotted lo hi = signed_decimal lo ++ 46 ∷ 46 ∷ signed_decimal hi

abbrev pub span_word : ℤ → ℤ → List ℕ
span_word lo hi = dotted lo hi ++ 58 ∷ []

dotted_lacks : (byte : ℕ) (lo hi : ℤ) → IsInNoNumber byte → 46 ≢ byte → FitsSigned w64 lo → FitsSigned w64 hi → Lacks byte (dotted lo hi)
dotted_lacks byte lo hi out other least most =
    let P : ℕ → Type 0 = λ b. (b == byte) ≡ false in
    All-append P (signed_decimal lo) (46 ∷ 46 ∷ signed_decimal hi) (number_lacks byte lo out least)
    (All-cons P 46 (46 ∷ signed_decimal hi) (differs 46 byte other) (All-cons P 46 (signed_decimal hi) (differs 46 byte other) (number_lacks byte hi out most)))

pub span_word_lacks : (byte : ℕ) (lo hi : ℤ) → IsInNoNumber byte → 46 ≢ byte → 58 ≢ byte → FitsSigned w64 lo → FitsSigned w64 hi
    → Lacks byte (span_word lo hi)
span_word_lacks byte lo hi out dot colon least most =
    let P : ℕ → Type 0 = λ b. (b == byte) ≡ false in
    All-append P (dotted lo hi) (58 ∷ []) (dotted_lacks byte lo hi out dot least most) (All-cons P 58 [] (differs 58 byte colon) (All-nil P))

ends_parts : (lo hi : ℤ) → FitsSigned w64 lo → FitsSigned w64 hi → parts 46 (dotted lo hi) ≡ signed_decimal lo ∷ [] ∷ signed_decimal hi ∷ []
ends_parts lo hi least most =
    first_part 46 (signed_decimal lo) (46 ∷ signed_decimal hi) (number_lacks 46 lo dot least)
    ∙ ap (λ (ws : List (List ℕ)). signed_decimal lo ∷ [] ∷ ws) (one_part 46 (signed_decimal hi) (number_lacks 46 hi dot most))

pub ends_spelled : (span : Ends) → FitsSigned w64 span.lo → FitsSigned w64 span.hi → AreIndices span
    → SpellSpan (parts 58 (span_word span.lo span.hi)) span
ends_spelled span least most indices =
    let inner : SpellEnds (parts 46 (dotted span.lo span.hi)) span =
    subst (λ (ws : List (List ℕ)). SpellEnds ws span) (sym (ends_parts span.lo span.hi least most))
    (refl, number_spelled span.lo least, number_spelled span.hi most, indices) in
    subst (λ (ws : List (List ℕ)). SpellSpan ws span)
    (sym (first_part 58 (dotted span.lo span.hi) [] (dotted_lacks 58 span.lo span.hi colon (λ e. omega (arith, e)) least most)))
    (refl, inner)
