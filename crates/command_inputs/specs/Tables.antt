-- The lines of tables at the head of the last section, each of which ends with a line feed.
use Rattle.std.specs.Prelude.{◌≡◌, ℕ, ◌+◌, ◌<◌, ◌==◌, Some, List, [], ◌∷◌, length, take, drop, position}
use Rattle.tables.specs.Lines.{IsTableLine}
use Rattle.tables.specs.declared.table.Table.{Table}

-- the section begins with this line, which ends at the first line feed, and the rest follows
pub record BeginsWithLine (section line rest : List ℕ) : Type 0 where
  pub at : ℕ
  pub ends : position (λ byte. byte == 10) section ≡ Some at
  pub before : line ≡ take at section
  pub behind : rest ≡ drop (at + 1) section

-- a line for each table, and the rest after them
abbrev pub AreTableLines : List ℕ → List Table → List ℕ → Type 0
AreTableLines section [] rest = rest ≡ section
AreTableLines section (t ∷ ts) rest =
    (line behind : List ℕ) × BeginsWithLine section line behind × IsTableLine line t × AreTableLines behind ts rest

-- there is no line, or the first one is no table's
abbrev pub LacksTable : List ℕ → Type 0
LacksTable section = (line rest : List ℕ) (t : Table) → BeginsWithLine section line rest → ¬ IsTableLine line t

-- line n, counted from 1, is the first of `count` lines that is missing or is no table's
pub record IsFirstLacking (section : List ℕ) (count n : ℕ) : Type 0 where
  pub before : List Table
  pub rest : List ℕ
  pub read : AreTableLines section before rest
  pub wanted : length before < count
  pub number : n ≡ length before + 1
  pub lacks : LacksTable rest

-- the first line is a table's
abbrev pub HasTable : List ℕ → Type 0
HasTable section = (line rest : List ℕ) × (t : Table) × BeginsWithLine section line rest × IsTableLine line t

-- behind lines of tables, fewer than `count`, the next line is a table's
pub record HasNextTable (section : List ℕ) (count : ℕ) : Type 0 where
  pub before : List Table
  pub rest : List ℕ
  pub read : AreTableLines section before rest
  pub wanted : length before < count
  pub has : HasTable rest
