-- A line is of one table.
use Rattle.std.proofs.Common.{◌≡◌, ◌∙◌, ◌<◌, ◌≤◌, ◌≤ℤ◌, ℕ, ℤ, pos, negsuc, List, [], ◌∷◌, Bool, true, false, length, if◌then◌else◌, ap, arith, drop, lit<, map, refl, subst, sym}
use Rattle.std.proofs.lemmas.Bool.{eqb-true}
use Rattle.std.proofs.lemmas.Fmt.{IsAscii-from_digits}
use Rattle.std.proofs.lemmas.Str.Ascii.{IsAscii-cons, IsAscii-nil}
use Rattle.std.specs.Str.{IsAscii}
use Rattle.std.specs.Str.Parse.{AllDigits, starts_with_minus}
use Rattle.domains.specs.Span.{Ends, len_of}
use Rattle.tables.specs.Entries.{AreIndices}
use Rattle.tables.specs.Lines.{IsTableLine, SpellEnds, SpellIntegers, SpellSpan, SpellsInteger, TellTable, IsTableName, TellsTable, cut_to_32, parts}
use Rattle.tables.specs.declared.table.Table.{Table}
use Rattle.tables.proofs.IntegerLaws.{as_many_numbers, number_alone, one_list}
use Rattle.tables.proofs.PartLaws.{alone}

ascii_behind : (minus : Bool) (word : List ℕ) → (minus ≡ true → starts_with_minus word ≡ true)
    → AllDigits 10 (if minus then drop 1 word else word) → IsAscii word
ascii_behind true [] is digits = IsAscii-nil
ascii_behind true (b ∷ word) is digits =
    IsAscii-cons b word (omega (arith, eqb-true b 45 (is refl))) (IsAscii-from_digits word digits)
ascii_behind false word is digits = IsAscii-from_digits word digits

pub spelled_ascii : (word : List ℕ) (z : ℤ) → SpellsInteger word z → IsAscii word
spelled_ascii word z spells = ascii_behind (starts_with_minus word) word (λ e. e) spells.digits.1

-- ---- the ends

ends_once : (words : List (List ℕ)) (a b : Ends) → SpellEnds words a → SpellEnds words b → a ≡ b
ends_once (first ∷ between ∷ last ∷ []) a b x y =
    let lo : a.lo ≡ b.lo = x.1.value ∙ sym y.1.value in
    let hi : a.hi ≡ b.hi = x.2.value ∙ sym y.2.value in
    λ i. record { lo = lo i; hi = hi i }
ends_once [] a b x y = absurd x
ends_once (w ∷ []) a b x y = absurd x
ends_once (w ∷ v ∷ []) a b x y = absurd x
ends_once (w ∷ v ∷ u ∷ t ∷ ts) a b x y = absurd x

span_once : (words : List (List ℕ)) (a b : Ends) → SpellSpan words a → SpellSpan words b → a ≡ b
span_once (ends ∷ behind ∷ []) a b x y = ends_once (parts 46 ends) a b x.1 y.1
span_once [] a b x y = absurd x
span_once (w ∷ []) a b x y = absurd x
span_once (w ∷ v ∷ u ∷ us) a b x y = absurd x

-- ---- what the parts of a line tell

-- what is before two dots, between them and after them spells ends
record AreParts (first between last : List ℕ) (span : Ends) : Type 0 where
  empty : length between ≡ 0
  least : SpellsInteger first span.lo
  most : SpellsInteger last span.hi
  indices : AreIndices span

last_part : (first between last : List ℕ) (span : Ends) (more : List (List ℕ)) → parts 46 last ≡ more
    → SpellEnds (first ∷ between ∷ more) span → AreParts first between last span
last_part first between last span [] e spells = absurd spells
last_part first between last span (w ∷ []) e spells =
    record {
      empty = spells.0;
      least = spells.1;
      most = subst (λ (l : List ℕ). SpellsInteger l span.hi) (alone 46 last w e) spells.2;
      indices = spells.3;
    }
last_part first between last span (w ∷ v ∷ ws) e spells = absurd spells

ends_parts : (ends first rest between last : List ℕ) (span : Ends) → parts 46 ends ≡ first ∷ parts 46 rest
    → parts 46 rest ≡ between ∷ parts 46 last → SpellEnds (parts 46 ends) span → AreParts first between last span
ends_parts ends first rest between last span e f spells =
    last_part first between last span (parts 46 last) refl
    (subst (λ (ws : List (List ℕ)). SpellEnds ws span) (e ∙ ap (λ (ws : List (List ℕ)). first ∷ ws) f) spells)

pub something_between : (ends first rest between last : List ℕ) → parts 46 ends ≡ first ∷ parts 46 rest
    → parts 46 rest ≡ between ∷ parts 46 last → 0 < length between → (span : Ends) → ¬ SpellEnds (parts 46 ends) span
something_between ends first rest between last e f some span spells =
    let is = ends_parts ends first rest between last span e f spells in
    absurd (omega (arith, some, is.empty))

pub no_least_end : (ends first rest between last : List ℕ) → parts 46 ends ≡ first ∷ parts 46 rest
    → parts 46 rest ≡ between ∷ parts 46 last → ((z : ℤ) → ¬ SpellsInteger first z) → (span : Ends) → ¬ SpellEnds (parts 46 ends) span
no_least_end ends first rest between last e f none span spells =
    none span.lo (ends_parts ends first rest between last span e f spells).least

pub no_most_end : (ends first rest between last : List ℕ) → parts 46 ends ≡ first ∷ parts 46 rest
    → parts 46 rest ≡ between ∷ parts 46 last → ((z : ℤ) → ¬ SpellsInteger last z) → (span : Ends) → ¬ SpellEnds (parts 46 ends) span
no_most_end ends first rest between last e f none span spells =
    none span.hi (ends_parts ends first rest between last span e f spells).most

-- the ends are no indices
pub no_indices : (ends first rest between last : List ℕ) (lo hi : ℤ) → parts 46 ends ≡ first ∷ parts 46 rest
    → parts 46 rest ≡ between ∷ parts 46 last → SpellsInteger first lo → SpellsInteger last hi → ¬ AreIndices (record { lo = lo; hi = hi })
    → (span : Ends) → ¬ SpellEnds (parts 46 ends) span
no_indices ends first rest between last lo hi e f least most none span spells =
    let is = ends_parts ends first rest between last span e f spells in
    let low : span.lo ≡ lo = is.least.value ∙ sym least.value in
    let high : span.hi ≡ hi = is.most.value ∙ sym most.value in
    none (record {
      least = subst (λ (z : ℤ). negsuc 16383 ≤ℤ z) low is.indices.least;
      ordered = subst (λ (z : ℤ). z ≤ℤ hi) low (subst (λ (z : ℤ). span.lo ≤ℤ z) high is.indices.ordered);
      most = subst (λ (z : ℤ). z ≤ℤ pos 16384) high is.indices.most;
    })

pub ends_spelled : (ends first rest between last : List ℕ) (span : Ends) → parts 46 ends ≡ first ∷ parts 46 rest
    → parts 46 rest ≡ between ∷ parts 46 last → length between ≡ 0 → SpellsInteger first span.lo → SpellsInteger last span.hi
    → AreIndices span → SpellEnds (parts 46 ends) span
ends_spelled ends first rest between last span e f empty least most indices =
    let whole : parts 46 ends ≡ first ∷ between ∷ last ∷ [] =
    e ∙ ap (λ (ws : List (List ℕ)). first ∷ ws) f
    ∙ ap (λ (ws : List (List ℕ)). first ∷ between ∷ ws) (number_alone 46 last span.hi (lit< tt) (λ e. omega (arith, e)) most) in
    subst (λ (ws : List (List ℕ)). SpellEnds ws span) (sym whole) (empty, least, most, indices)

-- what follows the colon
last_of_two : (ends behind : List ℕ) (span : Ends) (more : List (List ℕ)) → parts 58 behind ≡ more → SpellSpan (ends ∷ more) span
    → length behind ≡ 0
last_of_two ends behind span [] e spells = absurd spells
last_of_two ends behind span (w ∷ []) e spells = sym (ap length (alone 58 behind w e)) ∙ spells.0
last_of_two ends behind span (w ∷ v ∷ ws) e spells = absurd spells

pub something_behind : (word ends behind : List ℕ) → parts 58 word ≡ ends ∷ parts 58 behind → 0 < length behind → (span : Ends)
    → ¬ SpellSpan (parts 58 word) span
something_behind word ends behind e some span spells =
    let empty =
    last_of_two ends behind span (parts 58 behind) refl (subst (λ (ws : List (List ℕ)). SpellSpan ws span) e spells) in
    absurd (omega (arith, some, empty))

nothing_behind : (behind : List ℕ) → length behind ≡ 0 → parts 58 behind ≡ [] ∷ []
nothing_behind [] none = refl
nothing_behind (b ∷ behind) none = absurd (omega (arith, none))

colon_parts : (word ends behind : List ℕ) → parts 58 word ≡ ends ∷ parts 58 behind → length behind ≡ 0 → parts 58 word ≡ ends ∷ [] ∷ []
colon_parts word ends behind e none = e ∙ ap (λ (ws : List (List ℕ)). ends ∷ ws) (nothing_behind behind none)

pub span_spelled : (word ends behind : List ℕ) (span : Ends) → parts 58 word ≡ ends ∷ parts 58 behind → length behind ≡ 0
    → SpellEnds (parts 46 ends) span → SpellSpan (parts 58 word) span
span_spelled word ends behind span e none spells =
    subst (λ (ws : List (List ℕ)). SpellSpan ws span) (sym (colon_parts word ends behind e none)) (refl, spells)

pub span_unspelled : (word ends behind : List ℕ) → parts 58 word ≡ ends ∷ parts 58 behind → length behind ≡ 0
    → ((span : Ends) → ¬ SpellEnds (parts 46 ends) span) → (span : Ends) → ¬ SpellSpan (parts 58 word) span
span_unspelled word ends behind e none never span spells =
    let is = subst (λ (ws : List (List ℕ)). SpellSpan ws span) (colon_parts word ends behind e none) spells in
    never span is.1

-- ---- the whole

-- there are as many entries as the ends say
pub as_many : (name ends : List ℕ) (entries : List (List ℕ)) (span : Ends) (table : Table) → SpellSpan (parts 58 ends) span
    → TellsTable name ends entries table → (length entries ≤ 4096) × (length entries ≡ len_of span)
as_many name ends entries span table spells tells =
    let same : tells.span ≡ span = span_once (parts 58 ends) tells.span span tells.ends_are spells in
    (tells.shape.few, tells.shape.size ∙ ap len_of same)

pub other_numbers : (name ends : List ℕ) (entries : List (List ℕ)) (span : Ends) (count : ℕ) → SpellSpan (parts 58 ends) span
    → count ≡ len_of span → ((zs : List ℤ) → length zs ≡ count → ¬ SpellIntegers entries zs) → (table : Table)
    → ¬ TellsTable name ends entries table
other_numbers name ends entries span count spells each none table tells =
    let many = as_many name ends entries span table spells tells in
    none tells.numbers (omega (arith, as_many_numbers entries tells.numbers tells.spelled, many.1, each)) tells.spelled

pub a_table : (name ends : List ℕ) (entries : List (List ℕ)) (span : Ends) (count : ℕ) → IsTableName name
    → SpellSpan (parts 58 ends) span → AreIndices span → count ≡ len_of span → count ≤ 4096
    → (zs : List ℤ) × SpellIntegers entries zs × (length zs ≡ count) → (table : Table) × TellsTable name ends entries table
a_table name ends entries span count named spells indices all few (zs, are, each) =
    let many = as_many_numbers entries zs are in (
      record { name = name; lo = span.lo; values = map cut_to_32 zs },
      record {
        named = named;
        name_is = refl;
        span = span;
        ends_are = spells;
        lo_is = refl;
        shape = record { indices = indices; size = omega (arith, many, each, all); few = omega (arith, many, each, few) };
        numbers = zs;
        spelled = are;
        values_are = refl;
      },
    )

tells_once : (name ends : List ℕ) (entries : List (List ℕ)) (s t : Table) → TellsTable name ends entries s
    → TellsTable name ends entries t → s ≡ t
tells_once name ends entries s t x y =
    let named : s.name ≡ t.name = x.name_is ∙ sym y.name_is in
    let lo : s.lo ≡ t.lo =
    x.lo_is ∙ ap (λ (e : Ends). e.lo) (span_once (parts 58 ends) x.span y.span x.ends_are y.ends_are) ∙ sym y.lo_is in
    let values : s.values ≡ t.values =
    x.values_are ∙ ap (map cut_to_32) (one_list entries x.numbers y.numbers x.spelled y.spelled) ∙ sym y.values_are in
    λ i. record { name = named i; lo = lo i; values = values i }

words_once : (words : List (List ℕ)) (s t : Table) → TellTable words s → TellTable words t → s ≡ t
words_once (name ∷ ends ∷ entries) s t x y = tells_once name ends entries s t x y
words_once [] s t x y = absurd x
words_once (w ∷ []) s t x y = absurd x

pub line_describes_at_most_one_table : (line : List ℕ) (s t : Table) → IsTableLine line s → IsTableLine line t → s ≡ t
line_describes_at_most_one_table line s t x y = words_once (parts 32 line) s t x y
