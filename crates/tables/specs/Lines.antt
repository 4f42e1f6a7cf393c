-- The line of a table, `NAME LO..HI: V V V`, without a line feed: the form in which totals are printed. A blank separates words.
use Rattle.std.specs.List.{slice_split}
use Rattle.std.specs.Prelude.{◌≡◌, ℕ, ◌==◌, ℤ, pos, negsuc, IsTrue, None, List, [], ◌∷◌, drop, length, map, FitsSigned}
use Rattle.std.specs.Prelude.{if◌then◌else◌, neg_ℤ}
use Rattle.std.specs.Int.{w64}
use Rattle.std.specs.Str.Parse.{IsNumeral, digits_value, starts_with_minus}
use Rattle.domains.specs.Arithmetic.{clamped}
use Rattle.domains.specs.Span.{Ends}
use Rattle.pipe_tokens.specs.Naming.{is_identifier_of_name_length}
use Rattle.pipe_tokens.specs.Spelled.{word_of}
use Rattle.tables.specs.Entries.{AreEntries, AreIndices}
use Rattle.tables.specs.declared.table.Table.{Table}

-- what is before the first such byte, between each two, and after the last
abbrev pub parts : ℕ → List ℕ → List (List ℕ)
parts byte text = slice_split (λ b. b == byte) text

-- ---- numbers

abbrev pub without_minus : List ℕ → List ℕ
without_minus word = if starts_with_minus word then drop 1 word else word

abbrev pub number_in : List ℕ → ℤ
number_in word =
    if starts_with_minus word
    then neg_ℤ (pos (digits_value 10 (without_minus word)))
    else pos (digits_value 10 (without_minus word))

-- digits, with or without a `-` before them, of a number within 64 bits
pub record SpellsInteger (word : List ℕ) (z : ℤ) : Type 0 where
  pub digits : IsNumeral 10 (without_minus word)
  pub value : z ≡ number_in word
  pub fits : FitsSigned w64 z

-- a number for each word
abbrev pub SpellIntegers : List (List ℕ) → List ℤ → Type 0
SpellIntegers [] [] = Unit {0}
SpellIntegers (word ∷ words) (z ∷ zs) = SpellsInteger word z × SpellIntegers words zs
SpellIntegers [] (z ∷ zs) = ⊥
SpellIntegers (word ∷ words) [] = ⊥

-- a number clamped to the least and the greatest of 32 bits
abbrev pub cut_to_32 : ℤ → ℤ
cut_to_32 z = clamped z (negsuc 2147483647) (pos 2147483647)

-- ---- the parts of a line

-- a name of the language that is no reserved word
pub record IsTableName (word : List ℕ) : Type 0 where
  pub name : IsTrue (is_identifier_of_name_length word)
  pub free : word_of word ≡ None

-- `LO..HI` of indices, split at dots: nothing is between the two
abbrev pub SpellEnds : List (List ℕ) → Ends → Type 0
SpellEnds (first ∷ between ∷ last ∷ []) span =
    (length between ≡ 0) × SpellsInteger first span.lo × SpellsInteger last span.hi × AreIndices span
SpellEnds _ span = ⊥

-- `LO..HI:`, split at colons: nothing is after the one
abbrev pub SpellSpan : List (List ℕ) → Ends → Type 0
SpellSpan (ends ∷ behind ∷ []) span = (length behind ≡ 0) × SpellEnds (parts 46 ends) span
SpellSpan _ span = ⊥

-- a name, the ends, and as many entries as the ends specify, each clamped to 32 bits
pub record TellsTable (name ends : List ℕ) (entries : List (List ℕ)) (table : Table) : Type 0 where
  pub named : IsTableName name
  pub name_is : table.name ≡ name
  pub span : Ends
  pub ends_are : SpellSpan (parts 58 ends) span
  pub lo_is : table.lo ≡ span.lo
  pub shape : AreEntries span (length entries)
  pub numbers : List ℤ
  pub spelled : SpellIntegers entries numbers
  pub values_are : table.values ≡ map cut_to_32 numbers

abbrev pub TellTable : List (List ℕ) → Table → Type 0
TellTable (name ∷ ends ∷ entries) table = TellsTable name ends entries table
TellTable _ table = ⊥

-- the line is the table's
abbrev pub IsTableLine : List ℕ → Table → Type 0
IsTableLine line table = TellTable (parts 32 line) table
