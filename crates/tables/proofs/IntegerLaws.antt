-- The numbers of words, one after the other.
use Rattle.std.proofs.Common.{◌≡◌, ◌≢◌, ◌∙◌, ℕ, ℤ, zero, suc, ◌+◌, ◌<◌, ◌==◌, ◌++◌, All, Bool, false, if◌then◌else◌, true, List, [], ◌∷◌, Option, None, Some, Bor}
use Rattle.std.proofs.Common.{MatchOption, ap, append_assoc, arith, drop, inl, inr, length, map, refl, set, subst, sym, take}
use Rattle.std.proofs.lemmas.Bool.{eqb-true}
use Rattle.std.proofs.lemmas.Bool.Decides.{eqb_tells}
use Rattle.std.proofs.lemmas.List.{append-nil, length-append, map-append, take_all, take_more_set}
use Rattle.std.proofs.lemmas.List.Splits.{slice_split_none}
use Rattle.std.proofs.lemmas.Str.Parse.{digit_from_value}
use Rattle.std.specs.Str.Parse.{AllDigits, starts_with_minus}
use Rattle.tables.proofs.PartLaws.{first_and_left, parts_left, some_part}
use Rattle.tables.specs.Lines.{SpellIntegers, SpellsInteger, cut_to_32, parts}

-- ---- words that spell numbers

one_more : (words : List (List ℕ)) (zs : List ℤ) (word : List ℕ) (z : ℤ) → SpellIntegers words zs → SpellsInteger word z
    → SpellIntegers (words ++ word ∷ []) (zs ++ z ∷ [])
one_more [] [] word z are is = (is, tt)
one_more [] (y ∷ zs) word z are is = absurd are
one_more (w ∷ words) [] word z are is = absurd are
one_more (w ∷ words) (y ∷ zs) word z are is = (are.0, one_more words zs word z are.1 is)

pub as_many_numbers : (words : List (List ℕ)) (zs : List ℤ) → SpellIntegers words zs → length words ≡ length zs
as_many_numbers [] [] are = refl
as_many_numbers [] (z ∷ zs) are = absurd are
as_many_numbers (w ∷ words) [] are = absurd are
as_many_numbers (w ∷ words) (z ∷ zs) are = omega (arith, as_many_numbers words zs are.1)

-- each of the words spells a number
each_spells : (words : List (List ℕ)) (word : List ℕ) (more : List (List ℕ)) (zs : List ℤ)
    → SpellIntegers (words ++ word ∷ more) zs → (z : ℤ) × SpellsInteger word z
each_spells [] word more [] are = absurd are
each_spells [] word more (z ∷ zs) are = (z, are.0)
each_spells (w ∷ words) word more [] are = absurd are
each_spells (w ∷ words) word more (z ∷ zs) are = each_spells words word more zs are.1

-- words spell one list of numbers
pub one_list : (words : List (List ℕ)) (ys zs : List ℤ) → SpellIntegers words ys → SpellIntegers words zs → ys ≡ zs
one_list [] [] [] a b = refl
one_list [] [] (z ∷ zs) a b = absurd b
one_list [] (y ∷ ys) zs a b = absurd a
one_list (w ∷ words) [] zs a b = absurd a
one_list (w ∷ words) (y ∷ ys) [] a b = absurd b
one_list (w ∷ words) (y ∷ ys) (z ∷ zs) a b =
    ap (λ (x : ℤ). x ∷ ys) (a.0.value ∙ sym b.0.value) ∙ ap (λ (xs : List ℤ). z ∷ xs) (one_list words ys zs a.1 b.1)

-- ---- a number has no other byte than digits and a minus

digits_lack : (byte : ℕ) (digits : List ℕ) → byte < 48 → AllDigits 10 digits → All (λ b. (b == byte) ≡ false) digits
digits_lack byte [] low are k d within = absurd (omega (arith, within))
digits_lack byte (c ∷ cs) low are zero d within =
    elim (eqb_tells c byte) [ inl e ↦ absurd (omega (arith, e.1, low, digit_from_value c are.0)) | inr e ↦ e.0 ]
digits_lack byte (c ∷ cs) low are (suc k) d within = digits_lack byte cs low are.1 k d (omega (arith, within))

lack_after : (byte b : ℕ) (word : List ℕ) → (b ≡ byte → ⊥) → All (λ c. (c == byte) ≡ false) word → All (λ c. (c == byte) ≡ false) (b ∷ word)
lack_after byte b word other lack zero d within = elim (eqb_tells b byte) [ inl e ↦ absurd (other e.1) | inr e ↦ e.0 ]
lack_after byte b word other lack (suc k) d within = lack k d (omega (arith, within))

-- a number is one part of a text that is parted at a byte before the digits, and not at the minus
one_part : (byte : ℕ) (minus : Bool) (word : List ℕ) → (minus ≡ true → starts_with_minus word ≡ true) → byte < 48 → byte ≢ 45
    → AllDigits 10 (if minus then drop 1 word else word) → parts byte word ≡ word ∷ []
one_part byte true [] is low other digits = refl
one_part byte true (b ∷ word) is low other digits =
    slice_split_none (λ c. c == byte) (b ∷ word) (lack_after byte b word (λ e. other (sym e ∙ eqb-true b 45 (is refl))) (digits_lack byte word low digits))
one_part byte false word is low other digits = slice_split_none (λ c. c == byte) word (digits_lack byte word low digits)

pub number_alone : (byte : ℕ) (word : List ℕ) (z : ℤ) → byte < 48 → byte ≢ 45 → SpellsInteger word z → parts byte word ≡ word ∷ []
number_alone byte word z low other spells = one_part byte (starts_with_minus word) word (λ e. e) low other spells.digits.1

-- ---- what is read of a text

-- the first words of a text and their numbers, to which the first entries are clamped
pub record Read (text : List ℕ) (k : ℕ) (left : Option (Bor (List ℕ))) (entries : List ℤ) : Type 0 where
  pub words : List (List ℕ)
  pub numbers : List ℤ
  pub split : parts 32 text ≡ words ++ parts_left 32 left
  pub spelled : SpellIntegers words numbers
  pub count : length words ≡ k
  pub clamped : take k entries ≡ map cut_to_32 numbers

pub none_read : (text : Bor (List ℕ)) (entries : List ℤ) → Read text.now 0 (Some text) entries
none_read text entries = record { words = []; numbers = []; split = refl; spelled = tt; count = refl; clamped = refl }

-- one word more, of what is left
split_further : (text : List ℕ) (words : List (List ℕ)) (word : List ℕ) (before after : List (List ℕ)) → parts 32 text ≡ words ++ before
    → before ≡ word ∷ after → parts 32 text ≡ (words ++ word ∷ []) ++ after
split_further text words word before after e first = e ∙ ap (λ (ps : List (List ℕ)). words ++ ps) first ∙ sym (append_assoc words (word ∷ []) after)

pub one_more_read : (text : List ℕ) (k : ℕ) (before after : Option (Bor (List ℕ))) (entries : List ℤ) (rest : Bor (List ℕ))
    (word : List ℕ) (z : ℤ) → Read text k before entries → before ≡ Some rest
    → MatchOption after (parts 32 rest.now ≡ word ∷ []) (λ more. parts 32 rest.now ≡ word ∷ parts 32 more.now)
    → SpellsInteger word z → k < length entries → Read text (k + 1) after (set entries k (cut_to_32 z))
one_more_read text k before after entries rest word z h is first spells within = record {
  words = h.words ++ word ∷ [];
  numbers = h.numbers ++ z ∷ [];
  split =
      split_further text h.words word (parts_left 32 before) (parts_left 32 after) h.split
      (ap (parts_left 32) is ∙ first_and_left 32 rest.now word after first);
  spelled = one_more h.words h.numbers word z h.spelled spells;
  count = omega (arith, length-append h.words (word ∷ []), h.count);
  clamped =
      take_more_set entries k (cut_to_32 z) within ∙ ap (λ (es : List ℤ). es ++ cut_to_32 z ∷ []) h.clamped
      ∙ sym (map-append cut_to_32 h.numbers (z ∷ []));
}

-- there are fewer words than entries
pub too_few_words : (text : List ℕ) (k : ℕ) (left : Option (Bor (List ℕ))) (entries : List ℤ) (zs : List ℤ) → Read text k left entries
    → left ≡ None → k < length entries → length zs ≡ length entries → ¬ SpellIntegers (parts 32 text) zs
too_few_words text k left entries zs h is within each are =
    let whole = h.split ∙ ap (λ (l : Option (Bor (List ℕ))). h.words ++ parts_left 32 l) is in
    absurd (omega (arith, as_many_numbers (parts 32 text) zs are, ap length whole, length-append h.words [], h.count, within, each))

-- there are more words than entries
pub too_many_words : (text : List ℕ) (k : ℕ) (left : Option (Bor (List ℕ))) (entries : List ℤ) (rest : Bor (List ℕ)) (zs : List ℤ)
    → Read text k left entries → left ≡ Some rest → k ≡ length entries → length zs ≡ length entries → ¬ SpellIntegers (parts 32 text) zs
too_many_words text k left entries rest zs h is all each are =
    let whole = h.split ∙ ap (λ (l : Option (Bor (List ℕ))). h.words ++ parts_left 32 l) is in
    absurd (omega (
      arith,
      as_many_numbers (parts 32 text) zs are,
      ap length whole,
      length-append h.words (parts 32 rest.now),
      some_part 32 rest.now,
      h.count,
      all,
      each,
    ))

-- the next word spells no number
pub no_number : (text : List ℕ) (k : ℕ) (before after : Option (Bor (List ℕ))) (entries : List ℤ) (rest : Bor (List ℕ)) (word : List ℕ)
    (zs : List ℤ) → Read text k before entries → before ≡ Some rest
    → MatchOption after (parts 32 rest.now ≡ word ∷ []) (λ more. parts 32 rest.now ≡ word ∷ parts 32 more.now)
    → ((z : ℤ) → ¬ SpellsInteger word z) → ¬ SpellIntegers (parts 32 text) zs
no_number text k before after entries rest word zs h is first none are =
    let whole =
    h.split ∙ ap (λ (ps : List (List ℕ)). h.words ++ ps) (ap (parts_left 32) is ∙ first_and_left 32 rest.now word after first) in
    let (z, spells) =
    each_spells h.words word (parts_left 32 after) zs (subst (λ (ps : List (List ℕ)). SpellIntegers ps zs) whole are) in
    none z spells

-- each word is read, and there are as many as entries
pub all_read : (text : List ℕ) (k : ℕ) (left : Option (Bor (List ℕ))) (entries : List ℤ) → Read text k left entries → left ≡ None
    → k ≡ length entries → (zs : List ℤ) × SpellIntegers (parts 32 text) zs × (length zs ≡ length entries) × (entries ≡ map cut_to_32 zs)
all_read text k left entries h is all =
    let whole : parts 32 text ≡ h.words =
    h.split ∙ ap (λ (l : Option (Bor (List ℕ))). h.words ++ parts_left 32 l) is ∙ append-nil h.words in (
      h.numbers,
      subst (λ (ps : List (List ℕ)). SpellIntegers ps h.numbers) (sym whole) h.spelled,
      omega (arith, as_many_numbers h.words h.numbers h.spelled, h.count, all),
      sym (take_all k entries (omega (arith, all))) ∙ h.clamped,
    )
