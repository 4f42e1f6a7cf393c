-- What is refused memory: no input without its separator lines, and none whose text is too long.
use Rattle.std.proofs.Common.{◌≡◌, ◌<◌, ◌≤◌, inl, inr, List, length, ℕ, Result, Err}
use Rattle.std.proofs.lemmas.Bool.{cases_lt}
use Rattle.pipe_tree.specs.Limits.{most_bytes}
use Rattle.pipe_tree.specs.Tree.{Declaration}
use Rattle.pipe_tree.specs.declared.fault.ParseFault.{ParseFault}
use Rattle.pipe_tree.specs.declared.fault.ParseFault.TheVariants as texts
use Rattle.pipe_tree.specs.declared.tree.Tree.{Tree}
use Rattle.command_faults.specs.StepFaults.{fault_at_parse}
use Rattle.command_faults.specs.declared.faults.StreamFault.{StreamFault}
use Rattle.command_faults.specs.declared.faults.StreamFault.TheVariants as faults
use Rattle.command_inputs.specs.Faults.{HasShortText, HasShortTextInThree, IsMemoryOnlyIf}
use Rattle.command_inputs.specs.Input.{IsInput, IsInputInThree}
use Rattle.netpbm.specs.Image.{Image}
use Rattle.tables.specs.declared.table.Table.{Table}

-- what holds anyhow holds if memory is refused
pub only_if : (P : Type 0) → P → (f : StreamFault) → IsMemoryOnlyIf P f
only_if P holds faults.Memory = holds
only_if P holds faults.Read = tt
only_if P holds faults.TooLong = tt
only_if P holds faults.NoSeparator = tt
only_if P holds faults.Write = tt
only_if P holds (faults.Program x) = tt
only_if P holds (faults.Tables x) = tt
only_if P holds (faults.Picture x) = tt
only_if P holds (faults.Check x) = tt
only_if P holds (faults.Param x) = tt
only_if P holds (faults.Bind x) = tt
only_if P holds (faults.Facts x) = tt
only_if P holds (faults.Script x) = tt
only_if P holds (faults.Farm x) = tt

-- and so does what follows from it
pub only_if_weaker : (P Q : Type 0) → (P → Q) → (f : StreamFault) → IsMemoryOnlyIf P f → IsMemoryOnlyIf Q f
only_if_weaker P Q so faults.Memory is = so is
only_if_weaker P Q so faults.Read is = tt
only_if_weaker P Q so faults.TooLong is = tt
only_if_weaker P Q so faults.NoSeparator is = tt
only_if_weaker P Q so faults.Write is = tt
only_if_weaker P Q so (faults.Program x) is = tt
only_if_weaker P Q so (faults.Tables x) is = tt
only_if_weaker P Q so (faults.Picture x) is = tt
only_if_weaker P Q so (faults.Check x) is = tt
only_if_weaker P Q so (faults.Param x) is = tt
only_if_weaker P Q so (faults.Bind x) is = tt
only_if_weaker P Q so (faults.Facts x) is = tt
only_if_weaker P Q so (faults.Script x) is = tt
only_if_weaker P Q so (faults.Farm x) is = tt

-- a text that is too long has that fault
abbrev failed : ParseFault → Result Tree ParseFault
failed f = Err f

short_at_memory : (text : List ℕ)
    → (most_bytes < length text → failed texts.Memory ≡ Err (texts.TooLong most_bytes)) → length text ≤ most_bytes
short_at_memory text long = elim (cases_lt most_bytes (length text)) [ inl more ↦ absurd (let e = long more in cc) | inr le ↦ le ]

pub short_text : (text : List ℕ) (f : ParseFault)
    → (most_bytes < length text → failed f ≡ Err (texts.TooLong most_bytes))
    → IsMemoryOnlyIf (length text ≤ most_bytes) (fault_at_parse f)
short_text text texts.Memory long = short_at_memory text long
short_text text (texts.NotAscii n) long = tt
short_text text (texts.BadToken n) long = tt
short_text text (texts.Unexpected n) long = tt
short_text text (texts.NumberTooBig n) long = tt
short_text text (texts.TooDeep n) long = tt
short_text text (texts.TooLong n) long = tt
short_text text (texts.TooMany n) long = tt

-- the text of an input that is read is not
pub short_of_input : (input : List ℕ) (tree : List Declaration) (tables : List Table) (source : Image)
    → IsInput input tree tables source → HasShortText input
short_of_input input tree tables source read =
    record { text = read.text; last = read.last; parted = read.parted; short = read.spelled.program.short }

pub short_of_input_in_three : (input : List ℕ) (tree : List Declaration) (middle : List ℕ) (tables : List Table) (source : Image)
    → IsInputInThree input tree middle tables source → HasShortTextInThree input
short_of_input_in_three input tree middle tables source read =
    record { text = read.text; middle = middle; last = read.last; parted = read.parted; short = read.spelled.program.short }
