-- Lines of tables, one behind the other.
use Rattle.std.proofs.Common.{◌≡◌, inl, inr, ℕ, ◌+◌, ◌-◌, ◌<◌, ◌==◌, List, [], ◌∷◌, ◌++◌, Some, length, take, drop, position}
use Rattle.std.proofs.Common.{refl, sym, ap, ◌∙◌, subst, arith}
use Rattle.std.proofs.Math.Seq.{drop-drop}
use Rattle.std.proofs.lemmas.List.{length_push, length-drop, take_all}
use Rattle.std.proofs.lemmas.Option.{same_Some}
use Rattle.tables.specs.Lines.{IsTableLine}
use Rattle.tables.specs.declared.table.Table.{Table}
use Rattle.command_inputs.specs.Tables.{AreTableLines, BeginsWithLine, HasNextTable, HasTable, LacksTable}
use Rattle.command_faults.specs.declared.faults.StreamFault.{StreamFault}
use Rattle.command_inputs.specs.inside.Steps.{AreTablesBefore, BeginsWithTable, IsLineRefusal, IsTablesRefusal}

-- one line more
lines_last : (section middle line rest : List ℕ) (ts : List Table) (t : Table) → AreTableLines section ts middle
    → BeginsWithLine middle line rest → IsTableLine line t → AreTableLines section (ts ++ t ∷ []) rest
lines_last section middle line rest [] t e begins is = (line, rest, subst (λ xs. BeginsWithLine xs line rest) e begins, is, refl)
lines_last section middle line rest (x ∷ ts) t (first, behind, start, told, more) begins is =
    (first, behind, start, told, lines_last behind middle line rest ts t more begins is)

-- what is read of a section from a place on
pub rest_is : (section : List ℕ) (start : ℕ) → take (length section - start) (drop start section) ≡ drop start section
rest_is section start = take_all (length section - start) (drop start section) (omega (arith, length-drop start section))

pub tables_more : (section : List ℕ) (k start more : ℕ) (ts : List Table) (t : Table) → AreTablesBefore section k ts start
    → BeginsWithTable (drop start section) t more → AreTablesBefore section (k + 1) (ts ++ t ∷ []) (start + more)
tables_more section k start more ts t h one = record {
  each = length_push ts t ∙ ap (λ n. n + 1) h.each;
  lines =
      subst (AreTableLines section (ts ++ t ∷ [])) (drop-drop more start section)
      (lines_last section (drop start section) one.line (drop more (drop start section)) ts t h.lines one.begins one.is);
  within = omega (arith, h.within, one.within, length-drop start section);
}

-- ---- a line that is not there, or is no table's

pub lacks_line : (section : List ℕ) → ((n : ℕ) → position (λ byte. byte == 10) section ≡ Some n → ⊥) → LacksTable section
lacks_line section none line rest t begins is = none begins.at begins.ends

pub lacks_table : (section : List ℕ) (end : ℕ) → position (λ byte. byte == 10) section ≡ Some end
    → ((t : Table) → ¬ IsTableLine (take end section) t) → LacksTable section
lacks_table section end there never line rest t begins is =
    let same : begins.at ≡ end = same_Some begins.at end (sym begins.ends ∙ there) in
    never t (subst (λ xs. IsTableLine xs t) (begins.before ∙ ap (λ n. take n section) same) is)

-- ---- a line that is the next table's

pub has_table : (section : List ℕ) (end : ℕ) (t : Table) → position (λ byte. byte == 10) section ≡ Some end
    → IsTableLine (take end section) t → HasTable section
has_table section end t there is =
    (take end section, drop (end + 1) section, t, record { at = end; ends = there; before = refl; behind = refl }, is)

pub begun_table : (section : List ℕ) (t : Table) (start : ℕ) → BeginsWithTable section t start → HasTable section
begun_table section t start one = (one.line, drop start section, t, one.begins, one.is)

pub next_table : (section : List ℕ) (count k start : ℕ) (ts : List Table) → AreTablesBefore section k ts start → k < count
    → HasTable (drop start section) → HasNextTable section count
next_table section count k start ts h less has =
    record { before = ts; rest = drop start section; read = h.lines; wanted = omega (arith, less, h.each); has = has }

pub tables_refused : (section : List ℕ) (count k start : ℕ) (ts : List Table) (f : StreamFault) → AreTablesBefore section k ts start
    → k < count → IsLineRefusal (drop start section) (k + 1) f → IsTablesRefusal section count f
tables_refused section count k start ts f h less (inl (e, has)) =
    inl (e, next_table section count k start ts h less has)
tables_refused section count k start ts f h less (inr (e, lacks)) =
    inr (
      k + 1,
      e,
      record {
        before = ts;
        rest = drop start section;
        read = h.lines;
        wanted = omega (arith, less, h.each);
        number = ap (λ n. n + 1) (sym h.each);
        lacks = lacks;
      },
    )
