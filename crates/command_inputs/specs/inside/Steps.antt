-- What the steps from an input to its job give, and their faults.
use Rattle.std.specs.Prelude.{◌≡◌, ◌≢◌, ◌⊎◌, ℕ, ◌≤◌, List, length, drop, string_bytes}
use Rattle.netpbm.specs.Faults.{IsFault as IsPictureFault}
use Rattle.netpbm.specs.Grammar.{IsPicture}
use Rattle.netpbm.specs.Image.{Image}
use Rattle.netpbm.specs.declared.fault.PicFault.{PicFault}
use Rattle.pipe_tree.specs.Faults.{IsText}
use Rattle.pipe_tree.specs.Tree.{Declaration}
use Rattle.pipe_checks.specs.declared.symbol.Symbol.{Symbol}
use Rattle.pipe_bounds.specs.declared.fault.ParamFault.{ParamFault}
use Rattle.pipe_bounds.specs.declared.params.Setting.{Setting}
use Rattle.binding.specs.declared.fault.BindFault.{BindFault}
use Rattle.binding.specs.declared.fault.BindFault.TheVariants as binding
use Rattle.command_faults.specs.StepFaults.{fault_at_picture}
use Rattle.command_faults.specs.declared.faults.StreamFault.{StreamFault}
use Rattle.command_faults.specs.declared.faults.StreamFault.TheVariants as faults
use Rattle.command_inputs.specs.Faults.{IsCheckLine, blamed}
use Rattle.command_inputs.specs.Giving.{Given, IsFirstRefused}
use Rattle.command_inputs.specs.Sections.{IsParted}
use Rattle.command_inputs.specs.Tables.{AreTableLines, BeginsWithLine, HasNextTable, HasTable, IsFirstLacking, LacksTable}
use Rattle.tables.specs.Lines.{IsTableLine}
use Rattle.tables.specs.declared.table.Table.{Table}

-- ---- what is read

-- the first section is a program of this tree, and what follows its separator line starts at this place
pub record IsProgramBefore (input : List ℕ) (tree : List Declaration) (start : ℕ) : Type 0 where
  pub text : List ℕ
  pub parted : IsParted input text (drop start input)
  pub program : IsText text tree
  pub within : start ≤ length input

-- the section begins with a line of this table, and what follows it starts at this place
pub record BeginsWithTable (section : List ℕ) (t : Table) (start : ℕ) : Type 0 where
  pub line : List ℕ
  pub begins : BeginsWithLine section line (drop start section)
  pub is : IsTableLine line t
  pub within : start ≤ length section

-- `count` lines of tables are at the head of the section, and what follows them starts at this place
pub record AreTablesBefore (section : List ℕ) (count : ℕ) (tables : List Table) (start : ℕ) : Type 0 where
  pub each : length tables ≡ count
  pub lines : AreTableLines section tables (drop start section)
  pub within : start ≤ length section

-- the section is a line for each of `count` tables, and the spelling of a picture
pub record IsLastSection (last : List ℕ) (count : ℕ) (tables : List Table) (source : Image) : Type 0 where
  pub each : length tables ≡ count
  pub spelling : List ℕ
  pub lines : AreTableLines last tables spelling
  pub picture : IsPicture spelling source

-- ---- faults of the steps

-- the first line is missing, or is no table's; memory is refused only for one that is a table's
abbrev pub IsLineRefusal : List ℕ → ℕ → StreamFault → Type 0
IsLineRefusal section line fault =
    ((fault ≡ faults.Memory) × HasTable section) ⊎ ((fault ≡ faults.Tables line) × LacksTable section)

-- the first of `count` lines that is missing, or is no table's; memory is refused only for one that is the next table's
abbrev pub IsTablesRefusal : List ℕ → ℕ → StreamFault → Type 0
IsTablesRefusal section count fault =
    ((fault ≡ faults.Memory) × HasNextTable section count)
    ⊎ ((line : ℕ) × (fault ≡ faults.Tables line) × IsFirstLacking section count line)

-- what follows the lines of `count` tables has this fault of a picture; memory is refused only for a picture
pub record IsPictureRefusal (last : List ℕ) (count : ℕ) (fault : StreamFault) : Type 0 where
  pub tables : List Table
  pub each : length tables ≡ count
  pub spelling : List ℕ
  pub lines : AreTableLines last tables spelling
  pub picture : PicFault
  pub bad : IsPictureFault spelling picture
  pub told : fault ≡ fault_at_picture picture

-- the first fault of the lines of `count` tables and of the picture after them; memory is refused only for the line of the next
-- table, or for a picture
abbrev pub IsLastRefusal : List ℕ → ℕ → StreamFault → Type 0
IsLastRefusal last count fault = IsTablesRefusal last count fault ⊎ IsPictureRefusal last count fault

-- a rejected program
abbrev pub IsRefusal : List Declaration → StreamFault → Type 0
IsRefusal tree (faults.Check line) = IsCheckLine tree line
IsRefusal tree faults.Memory = Unit {0}
IsRefusal tree _ = ⊥

-- how a rejected parameter of this name is reported
abbrev pub TellsParam : ParamFault → List ℕ → StreamFault → Type 0
TellsParam fault name (faults.Param line) = (line.fault ≡ fault) × (string_bytes line.name ≡ name)
TellsParam fault name faults.Memory = Unit {0}
TellsParam fault name _ = ⊥

-- the first rejected parameter
abbrev pub IsParamRefusal : List Setting → List Given → StreamFault → Type 0
IsParamRefusal ss given (faults.Param line) = IsFirstRefused ss given line
IsParamRefusal ss given faults.Memory = Unit {0}
IsParamRefusal ss given _ = ⊥

-- how a fault of binding is reported by the names of these parameters, tables and stages; only refused memory is as that
abbrev pub TellsBind : List Symbol → List Symbol → List Symbol → BindFault → StreamFault → Type 0
TellsBind params tables stages fault (faults.Bind line) =
    (line.fault ≡ fault) × (fault ≢ binding.Memory) × (line.blamed ≡ blamed params tables stages fault)
TellsBind params tables stages fault faults.Memory = fault ≡ binding.Memory
TellsBind params tables stages fault _ = ⊥
