-- How a run of the program ends: what the words request, and what was written.
use Rattle.std.specs.Prelude.{◌≡◌, ◌⊎◌, ℕ, List, Option, codes}
use Rattle.std.specs.declared.alloc.Global.{Global}
use Rattle.std.specs.declared.string.String.{String}
use Rattle.command_line.specs.Asking.{AskForMerge, IsRequestOf, NamesTask}
use Rattle.command_line.specs.declared.words.CommandRequest.{CommandRequest}
use Rattle.command_faults.specs.FaultLines.{line_of}
use Rattle.command_outcomes.specs.Outcomes.{AppendsPartSaid, AppendsSaid, IsFirstFault}
use Rattle.command_faults.specs.Statuses.{status_of}
use Rattle.command_faults.specs.Taking.{Puts}
use Rattle.command_faults.specs.declared.faults.StreamFault.{StreamFault}
use Rattle.command_faults.specs.declared.faults.StreamFault.TheVariants.{Farm}
use Rattle.command_faults.specs.declared.lines.FarmFaultLine.{FarmFaultLine}
use Rattle.commands.specs.Sayings.{refusing_by, saying_by}
use Rattle.fact_commands.specs.declared.finding.AuditFinding.{AuditFinding}

-- ---- words that request nothing

-- the line of every command line that is refused
abbrev pub usage_line : List ℕ
usage_line = codes "usage: tilefarm COMMAND [OPTIONS] [NAME=VALUE]...\n"

abbrev pub AskForNothing : List (String Global) → Type 0
AskForNothing words = (request : CommandRequest) → ¬ IsRequestOf words request

-- ---- words that request something

-- they are `merge` alone, or the first is a task's and none is `--`
abbrev pub NamesCommand : List (String Global) → Type 0
NamesCommand words = AskForMerge words ⊎ NamesTask words

-- they make a request of which this holds
abbrev pub AskFor : List (String Global) → (CommandRequest → Type 0) → Type 0
AskFor words Holds = (request : CommandRequest) × IsRequestOf words request × Holds request

-- the command was run with the request's own parameters and options, and the writer took all of its output for this finding
abbrev pub HasSaid : AuditFinding → CommandRequest → Option (List ℕ) → Option (List ℕ) → Option (List ℕ) → Type 0
HasSaid found request input old new = AppendsSaid (saying_by request) input found old new

-- the writer failed, and took a part of the output
abbrev pub HasSaidPart : CommandRequest → Option (List ℕ) → Option (List ℕ) → Option (List ℕ) → Type 0
HasSaidPart request input old new = AppendsPartSaid (saying_by request) input old new

-- the first fault of the input and of the request's parameters and sides has this status, and its line alone was written
pub record HasTold (status : ℕ) (request : CommandRequest) (input old new : Option (List ℕ)) (before after : ℕ) : Type 0 where
  pub fault : StreamFault
  pub told : status_of fault ≡ status
  pub first : IsFirstFault (refusing_by request) input fault
  pub line : Puts (line_of fault) old new before after

-- the farm of the request gave no answer for an input without a fault of its own, and only the line of that was written
pub record HasFarmFailed (request : CommandRequest) (input old new : Option (List ℕ)) (before after : ℕ) : Type 0 where
  pub fault : FarmFaultLine
  pub first : IsFirstFault (refusing_by request) input (Farm fault)
  pub line : Puts (line_of (Farm fault)) old new before after
