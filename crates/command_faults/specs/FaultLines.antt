-- The line that reports a fault, in bytes. Items, cases and reads are counted from 0.
use Rattle.std.specs.Prelude.{ℕ, ℤ, Option, Some, List, [], ◌∷◌, ◌++◌, codes, string_bytes, unwrap_or}
use Rattle.std.specs.Fmt.{decimal, signed_decimal}
use Rattle.std.specs.List.{flat_map}
use Rattle.std.specs.Option.{option_map_or}
use Rattle.netpbm.specs.FaultTable as pictures
use Rattle.pipe_tree.specs.FaultLine as texts
use Rattle.pipe_checks.specs.FaultTable.{check_number, check_name}
use Rattle.pipe_checks.specs.declared.fault.CheckFault.{CheckFault}
use Rattle.pipe_checks.specs.declared.fault.CheckFault.TheVariants as checks
use Rattle.pipe_bounds.specs.FaultTable.{bound_number, bound_name, param_number, param_name}
use Rattle.pipe_bounds.specs.declared.fault.Axis.{Axis}
use Rattle.pipe_bounds.specs.declared.fault.Axis.TheVariants.{Rows, Columns}
use Rattle.pipe_bounds.specs.declared.fault.BoundFault.TheVariants as bounds
use Rattle.pipe_bounds.specs.declared.fault.ParamFault.{ParamFault}
use Rattle.binding.specs.BindFaults.{bind_number, bind_name}
use Rattle.binding.specs.declared.fault.BindFault.{BindFault}
use Rattle.binding.specs.declared.fault.BindFault.TheVariants as binding
use Rattle.tile_fact.specs.FaultTable as files
use Rattle.tile_fact.specs.declared.fault.FactFault.{FactFault}
use Rattle.fact_lines.specs.declared.fault.FactLinesFault.{FactLinesFault}
use Rattle.fact_lines.specs.declared.fault.FactLinesFault.TheVariants as facts
use Rattle.gossip_events.specs.FaultTable as events
use Rattle.gossip_events.specs.declared.fault.ScriptFault.{ScriptFault}
use Rattle.gossip_events.specs.declared.fault.ScriptFault.TheVariants as scripts
use Rattle.command_faults.specs.declared.faults.StreamFault.{StreamFault}
use Rattle.command_faults.specs.declared.faults.StreamFault.TheVariants.{Read, TooLong, NoSeparator, Program, Tables, Picture, Check, Param}
use Rattle.command_faults.specs.declared.faults.StreamFault.TheVariants.{Bind, Facts, Script, Farm, Memory, Write}
use Rattle.command_faults.specs.declared.lines.BindFaultLine.{BindFaultLine}
use Rattle.command_faults.specs.declared.lines.CheckFaultLine.{CheckFaultLine}
use Rattle.command_faults.specs.declared.lines.CheckFaultLine.TheVariants as lines
use Rattle.command_faults.specs.declared.lines.FarmFaultLine.{FarmFaultLine}
use Rattle.command_faults.specs.declared.lines.FarmFaultLine.TheVariants as farms
use Rattle.command_faults.specs.declared.lines.ParamFaultLine.{ParamFaultLine}

-- `KIND: NUMBER NAME`
abbrev pub head : List ℕ → ℕ → List ℕ → List ℕ
head kind number name = kind ++ codes ": " ++ decimal number ++ 32 ∷ name

-- ` NAME`
abbrev pub name_text : List ℕ → List ℕ
name_text name = 32 ∷ name

-- ---- faults of a text and of a picture

-- ` at OFFSET`
abbrev pub offset_text : Option ℕ → List ℕ
offset_text offset = codes " at " ++ decimal (unwrap_or offset 0)

abbrev pub head_at : List ℕ → ℕ → List ℕ → Option ℕ → List ℕ
head_at kind number name offset = head kind number name ++ offset_text offset

-- ---- faults of tables

-- `tables: line L`, where lines of the last section are counted from 1
abbrev pub tables_text : ℕ → List ℕ
tables_text line = codes "tables: line " ++ decimal line

-- ---- faults of names, numbers and cycles

-- ` item I`, where a fault blames an item
abbrev pub item_text : CheckFault → List ℕ
item_text (checks.Unknown item) = codes " item " ++ decimal item
item_text (checks.Twice item) = codes " item " ++ decimal item
item_text (checks.Kind item) = codes " item " ++ decimal item
item_text (checks.BadKernel item) = codes " item " ++ decimal item
item_text (checks.BadLiteral item) = codes " item " ++ decimal item
item_text checks.NoResult = []
item_text (checks.Cycle stages) = []
item_text checks.Memory = []

abbrev pub check_head : CheckFault → List ℕ
check_head fault = head (codes "check") (check_number fault) (check_name fault)

abbrev pub fault_text : CheckFault → List ℕ
fault_text fault = check_head fault ++ item_text fault

-- a cycle is reported by the names of its stages
abbrev pub cycle_text : List (List ℕ) → List ℕ
cycle_text names = check_head (checks.Cycle []) ++ flat_map name_text names

abbrev pub check_text : CheckFaultLine → List ℕ
check_text (lines.Fault fault) = fault_text fault
check_text (lines.Cycle names) = cycle_text names

-- ---- faults of parameters

abbrev pub param_head : ParamFault → List ℕ
param_head fault = head (codes "parameter") (param_number fault) (param_name fault)

abbrev pub param_text : ParamFaultLine → List ℕ
param_text line = param_head line.fault ++ name_text (string_bytes line.name)

-- ---- faults of a program and a picture

abbrev pub bind_head : BindFault → List ℕ
bind_head (binding.Bounds fault) = head (codes "bounds") (bound_number fault) (bound_name fault)
bind_head fault = head (codes "bind") (bind_number fault) (bind_name fault)

-- the name that a fault blames, if it blames one
abbrev pub blamed_text : Option (List ℕ) → List ℕ
blamed_text blamed = option_map_or name_text blamed []

abbrev pub axis_word : Axis → List ℕ
axis_word Rows = codes "rows"
axis_word Columns = codes "columns"

-- ` case C read K AXIS`
abbrev pub place_text : ℕ → ℕ → Axis → List ℕ
place_text case read axis = codes " case " ++ decimal case ++ codes " read " ++ decimal read ++ 32 ∷ axis_word axis

-- ` least L greatest G`
abbrev pub ends_text : ℤ → ℤ → List ℕ
ends_text least greatest = codes " least " ++ signed_decimal least ++ codes " greatest " ++ signed_decimal greatest

-- where a read leaves the domain of what it reads, and its least and greatest index
abbrev pub read_text : BindFault → List ℕ
read_text (binding.Bounds (bounds.OutOfBounds stage case read axis least greatest)) = place_text case read axis ++ ends_text least greatest
read_text fault = []

abbrev pub bind_text : BindFaultLine → List ℕ
bind_text line = bind_head line.fault ++ blamed_text line.blamed ++ read_text line.fault

-- ---- faults of fact files

-- `facts: line L`, where lines are counted from 1
abbrev pub line_head : ℕ → List ℕ
line_head line = codes "facts: line " ++ decimal line

abbrev pub bad_hex_text : ℕ → List ℕ
bad_hex_text line = line_head line ++ codes " bad hex"

-- ` NUMBER NAME`
abbrev pub file_fault_text : ℕ → FactFault → List ℕ
file_fault_text line fault = line_head line ++ 32 ∷ decimal (files.number_of fault) ++ 32 ∷ files.name_of fault

-- the offset counts bytes of the file, and not digits
abbrev pub bad_file_text : ℕ → FactFault → List ℕ
bad_file_text line fault = file_fault_text line fault ++ offset_text (files.offset_of fault)

abbrev pub facts_text : FactLinesFault → List ℕ
facts_text (facts.BadHex line) = bad_hex_text line
facts_text (facts.BadFile line fault) = bad_file_text line fault
facts_text facts.Memory = codes "memory"

-- ---- faults of scripts

-- ` at LINE`, where one line is at fault; lines are counted from 1
abbrev pub at_line_text : ScriptFault → List ℕ
at_line_text (scripts.BadLine line) = offset_text (Some line)
at_line_text (scripts.NoSuchJob line) = offset_text (Some line)
at_line_text scripts.TooManyEvents = []
at_line_text scripts.Memory = []

abbrev pub script_head : ScriptFault → List ℕ
script_head fault = head (codes "script") (events.number_of fault) (events.name_of fault)

abbrev pub script_text : ScriptFault → List ℕ
script_text fault = script_head fault ++ at_line_text fault

-- ---- faults of farms

abbrev pub farm_text : FarmFaultLine → List ℕ
farm_text farms.SpawnFailed = codes "farm: 1 SpawnFailed"
farm_text farms.Close = codes "farm: 3 Close"

-- ---- the whole

-- a fault's line without its line feed
abbrev pub text_of : StreamFault → List ℕ
text_of Read = codes "input failed"
text_of TooLong = codes "input: too long"
text_of NoSeparator = codes "input: no separator"
text_of (Program fault) = head_at (codes "program") (texts.number_of fault) (texts.name_of fault) (texts.offset_of fault)
text_of (Tables line) = tables_text line
text_of (Picture fault) = head_at (codes "picture") (pictures.number_of fault) (pictures.name_of fault) (pictures.offset_of fault)
text_of (Check line) = check_text line
text_of (Param line) = param_text line
text_of (Bind line) = bind_text line
text_of (Facts fault) = facts_text fault
text_of (Script fault) = script_text fault
text_of (Farm line) = farm_text line
text_of Memory = codes "memory"
text_of Write = []

-- the line, which a fault of the writer lacks
abbrev pub line_of : StreamFault → List ℕ
line_of Write = []
line_of fault = text_of fault ++ 10 ∷ []
