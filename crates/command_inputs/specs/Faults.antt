-- Which fault of an input is reported: each only if none of those before it is.
use Rattle.std.specs.Prelude.{◌≡◌, ◌≢◌, ◌≤◌, ℕ, Option, None, List, length, slice_get, filter_map}
use Rattle.std.specs.Option.{option_map}
use Rattle.domains.specs.Sides.{Sides}
use Rattle.netpbm.specs.Image.{Image}
use Rattle.netpbm.specs.Faults.{IsFault as IsPictureFault}
use Rattle.netpbm.specs.declared.fault.PicFault.{PicFault}
use Rattle.netpbm.specs.declared.fault.PicFault.TheVariants as pictures
use Rattle.pipe_tree.specs.Faults.{IsFault as IsTextFault, IsText}
use Rattle.pipe_tree.specs.Limits.{most_bytes}
use Rattle.pipe_tree.specs.Tree.{Declaration}
use Rattle.pipe_tree.specs.declared.fault.ParseFault.TheVariants as texts
use Rattle.pipe_checks.specs.Checking.{IsFault as IsProgramFault}
use Rattle.pipe_checks.specs.Graph.{IsRanking}
use Rattle.pipe_checks.specs.Names.{params_of, tables_of, stages_of}
use Rattle.pipe_checks.specs.Accesses.{graph_of}
use Rattle.pipe_checks.specs.declared.symbol.Symbol.{Symbol}
use Rattle.pipe_bounds.specs.declared.fault.BoundFault.{BoundFault}
use Rattle.pipe_bounds.specs.declared.fault.BoundFault.TheVariants as bounds
use Rattle.pipe_checks.specs.declared.fault.CheckFault.TheVariants as checks
use Rattle.pipe_bounds.specs.declared.params.Setting.{Setting}
use Rattle.binding.specs.BindFaults.{IsBindFault}
use Rattle.binding.specs.declared.fault.BindFault.{BindFault}
use Rattle.binding.specs.declared.fault.BindFault.TheVariants as binding
use Rattle.tables.specs.declared.table.Table.{Table}
use Rattle.command_inputs.specs.Giving.{Given, AreGiven, IsFirstRefused, unset_of}
use Rattle.command_inputs.specs.Input.{IsInput, IsInputInThree, MeansSomething, program_at}
use Rattle.command_inputs.specs.Sections.{HasNoSeparator, IsParted, IsPartedInThree, LacksSeparator}
use Rattle.command_inputs.specs.Tables.{AreTableLines, IsFirstLacking}
use Rattle.command_faults.specs.declared.faults.StreamFault.{StreamFault}
use Rattle.command_faults.specs.declared.faults.StreamFault.TheVariants.{NoSeparator, Program, Tables, Picture, Check, Param, Bind}
use Rattle.command_faults.specs.declared.faults.StreamFault.TheVariants.{Memory}
use Rattle.command_faults.specs.declared.lines.BindFaultLine.{BindFaultLine}
use Rattle.command_faults.specs.declared.lines.CheckFaultLine.{CheckFaultLine}
use Rattle.command_faults.specs.declared.lines.CheckFaultLine.TheVariants as check_lines

-- the name of the stage, the parameter or the table of this number
abbrev pub name_at : List Symbol → ℕ → Option (List ℕ)
name_at declared n = option_map (λ (d : Symbol). d.name) (slice_get declared n)

-- ---- faults of a program

-- the names of the stages of these numbers
abbrev pub names_of : List Symbol → List ℕ → List (List ℕ)
names_of stages numbers = filter_map (name_at stages) numbers

-- the fault of a program, reported by the names of its stages
abbrev pub IsCheckLine : List Declaration → CheckFaultLine → Type 0
IsCheckLine tree (check_lines.Cycle names) =
    (cycle : List ℕ) × IsProgramFault tree (checks.Cycle cycle) × (names ≡ names_of (stages_of tree) cycle)
IsCheckLine tree (check_lines.Fault (checks.Cycle cycle)) = ⊥
IsCheckLine tree (check_lines.Fault checks.Memory) = ⊥
IsCheckLine tree (check_lines.Fault fault) = IsProgramFault tree fault

-- ---- faults of a program, tables and a picture

-- the name of the parameter, the table or the stage that a fault blames, if it blames one
abbrev pub blamed_in_bounds : List Symbol → List Symbol → List Symbol → BoundFault → Option (List ℕ)
blamed_in_bounds params tables stages (bounds.ParamUnset n) = name_at params n
blamed_in_bounds params tables stages (bounds.EmptyTable n) = name_at tables n
blamed_in_bounds params tables stages (bounds.TableTooWide n) = name_at tables n
blamed_in_bounds params tables stages (bounds.EmptyDomain n) = name_at stages n
blamed_in_bounds params tables stages (bounds.DomainTooWide n) = name_at stages n
blamed_in_bounds params tables stages (bounds.OutOfBounds n case read axis least greatest) = name_at stages n
blamed_in_bounds params tables stages bounds.Memory = None

abbrev pub blamed : List Symbol → List Symbol → List Symbol → BindFault → Option (List ℕ)
blamed params tables stages (binding.Bounds fault) = blamed_in_bounds params tables stages fault
blamed params tables stages (binding.TableMismatch n) = name_at tables n
blamed params tables stages binding.Planes = None
blamed params tables stages binding.ExtentMismatch = None
blamed params tables stages binding.OutputShapes = None
blamed params tables stages (binding.TooManyTiles n) = name_at stages n
blamed params tables stages binding.Memory = None

-- the first fault of a program at the supplied values, of its tables, a picture and the sides of tiles. It is reported by the
-- name that it blames
pub record IsBindLine (tree : List Declaration) (tables : List Table) (given : List Given) (source : Image) (sides : Sides)
    (line : BindFaultLine) : Type 0 where
  pub chosen : List Setting
  pub are_given : AreGiven (unset_of tree) given chosen
  pub ranks : List ℕ
  pub ranking : IsRanking (graph_of tree) ranks
  pub fault : IsBindFault tree (program_at tree ranks chosen tables) source sides line.fault
  pub no_memory : line.fault ≢ binding.Memory
  pub blames : line.blamed ≡ blamed (params_of tree) (tables_of tree) (stages_of tree) line.fault

-- ---- the steps

-- a picture with this fault, after a line for each table that the program declares
pub record IsFaultBehind (last : List ℕ) (tree : List Declaration) (fault : PicFault) : Type 0 where
  pub tables : List Table
  pub each : length tables ≡ length (tables_of tree)
  pub spelling : List ℕ
  pub lines : AreTableLines last tables spelling
  pub bad : IsPictureFault spelling fault

-- the first fault of a program's text, of the lines of its tables and of the spelling of a picture; memory may run out for any
abbrev pub IsSpellingFault : List ℕ → List ℕ → StreamFault → Type 0
IsSpellingFault text last (Program fault) = IsTextFault text fault × (fault ≢ texts.Memory)
IsSpellingFault text last (Tables line) = (tree : List Declaration) × IsText text tree × IsFirstLacking last (length (tables_of tree)) line
IsSpellingFault text last (Picture fault) =
    (tree : List Declaration) × IsText text tree × IsFaultBehind last tree fault × (fault ≢ pictures.Memory)
IsSpellingFault text last Memory = Unit {0}
IsSpellingFault text last _ = ⊥

-- the first fault of a program, its tables and a picture, of the supplied parameters and of the sides of tiles. Memory may run
-- out for any
abbrev pub IsJobFault : List Declaration → List Table → Image → List Given → Sides → StreamFault → Type 0
IsJobFault tree tables source given sides (Check line) = IsCheckLine tree line
IsJobFault tree tables source given sides (Param line) = MeansSomething tree × IsFirstRefused (unset_of tree) given line
IsJobFault tree tables source given sides (Bind line) = MeansSomething tree × IsBindLine tree tables given source sides line
IsJobFault tree tables source given sides Memory = Unit {0}
IsJobFault tree tables source given sides _ = ⊥

-- ---- the whole: neither a reader nor a writer is known here

-- the first fault of an input of two sections; memory may run out for any
abbrev pub IsFaultOf : List ℕ → List Given → Sides → StreamFault → Type 0
IsFaultOf input given sides NoSeparator = HasNoSeparator input
IsFaultOf input given sides (Program fault) =
    (text last : List ℕ) × IsParted input text last × IsSpellingFault text last (Program fault)
IsFaultOf input given sides (Tables line) = (text last : List ℕ) × IsParted input text last × IsSpellingFault text last (Tables line)
IsFaultOf input given sides (Picture fault) =
    (text last : List ℕ) × IsParted input text last × IsSpellingFault text last (Picture fault)
IsFaultOf input given sides (Check line) =
    (tree : List Declaration) × (tables : List Table) × (source : Image) × IsInput input tree tables source
    × IsJobFault tree tables source given sides (Check line)
IsFaultOf input given sides (Param line) =
    (tree : List Declaration) × (tables : List Table) × (source : Image) × IsInput input tree tables source
    × IsJobFault tree tables source given sides (Param line)
IsFaultOf input given sides (Bind line) =
    (tree : List Declaration) × (tables : List Table) × (source : Image) × IsInput input tree tables source
    × IsJobFault tree tables source given sides (Bind line)
IsFaultOf input given sides Memory = Unit {0}
IsFaultOf input given sides _ = ⊥

-- The first fault of the program, its tables, the picture and the job of an input of three sections. The middle section is not
-- looked at. Memory may run out for any.
abbrev pub IsFaultAround : List ℕ → List Given → Sides → StreamFault → Type 0
IsFaultAround input given sides NoSeparator = LacksSeparator input
IsFaultAround input given sides (Program fault) =
    (text middle last : List ℕ) × IsPartedInThree input text middle last × IsSpellingFault text last (Program fault)
IsFaultAround input given sides (Tables line) =
    (text middle last : List ℕ) × IsPartedInThree input text middle last × IsSpellingFault text last (Tables line)
IsFaultAround input given sides (Picture fault) =
    (text middle last : List ℕ) × IsPartedInThree input text middle last × IsSpellingFault text last (Picture fault)
IsFaultAround input given sides (Check line) =
    (tree : List Declaration) × (middle : List ℕ) × (tables : List Table) × (source : Image)
    × IsInputInThree input tree middle tables source × IsJobFault tree tables source given sides (Check line)
IsFaultAround input given sides (Param line) =
    (tree : List Declaration) × (middle : List ℕ) × (tables : List Table) × (source : Image)
    × IsInputInThree input tree middle tables source × IsJobFault tree tables source given sides (Param line)
IsFaultAround input given sides (Bind line) =
    (tree : List Declaration) × (middle : List ℕ) × (tables : List Table) × (source : Image)
    × IsInputInThree input tree middle tables source × IsJobFault tree tables source given sides (Bind line)
IsFaultAround input given sides Memory = Unit {0}
IsFaultAround input given sides _ = ⊥

-- ---- what is never refused memory

-- memory is refused only if this holds
abbrev pub IsMemoryOnlyIf : Type 0 → StreamFault → Type 0
IsMemoryOnlyIf P Memory = P
IsMemoryOnlyIf P _ = Unit {0}

-- there is a separator line, and the text before it is not too long
pub record HasShortText (input : List ℕ) : Type 0 where
  pub text : List ℕ
  pub last : List ℕ
  pub parted : IsParted input text last
  pub short : length text ≤ most_bytes

-- there are two separator lines, and the text before the first one is not too long
pub record HasShortTextInThree (input : List ℕ) : Type 0 where
  pub text : List ℕ
  pub middle : List ℕ
  pub last : List ℕ
  pub parted : IsPartedInThree input text middle last
  pub short : length text ≤ most_bytes
