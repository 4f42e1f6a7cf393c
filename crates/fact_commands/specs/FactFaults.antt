-- Which fault is reported of an input of fact files, and of one of three sections, of which the middle one is fact files.
use Rattle.std.specs.Prelude.{◌≢◌, ℕ, List}
use Rattle.domains.specs.Sides.{Sides}
use Rattle.fact_lines.specs.Faults.{IsFault as IsLinesFault}
use Rattle.fact_lines.specs.declared.fault.FactLinesFault.{FactLinesFault}
use Rattle.fact_lines.specs.declared.fault.FactLinesFault.TheVariants as lines
use Rattle.job.specs.Pipeline.{Pipeline}
use Rattle.pipe_tree.specs.Tree.{Declaration}
use Rattle.command_faults.specs.declared.faults.StreamFault.{StreamFault}
use Rattle.command_faults.specs.declared.faults.StreamFault.TheVariants.{Facts, Memory}
use Rattle.command_inputs.specs.Faults.{IsFaultAround}
use Rattle.command_inputs.specs.Giving.{Given}
use Rattle.command_inputs.specs.Input.{IsInputAround}
use Rattle.command_outcomes.specs.Outcomes.{Refusing}

-- the first bad line
abbrev pub IsFactsFault : List ℕ → FactLinesFault → Type 0
IsFactsFault text fault = IsLinesFault text fault × (fault ≢ lines.Memory)

-- the first bad line of the middle section, where the program and the picture have a job at the supplied values
pub record IsAuditFactsFault (input : List ℕ) (given : List Given) (sides : Sides) (fault : FactLinesFault) : Type 0 where
  pub tree : List Declaration
  pub job : Pipeline
  pub text : List ℕ
  pub around : IsInputAround input given sides tree job text
  pub bad : IsFactsFault text fault

-- the first fault of an input of three sections, the middle one of which is fact files. A bad line comes after all faults of the
-- program, the picture and the job
abbrev pub IsAuditFault : List ℕ → List Given → Sides → StreamFault → Type 0
IsAuditFault input given sides (Facts fault) = IsAuditFactsFault input given sides fault
IsAuditFault input given sides fault = IsFaultAround input given sides fault

-- the first fault of an input that is fact files alone; memory is refused only where no line before is bad
abbrev pub IsMergeFault : List ℕ → StreamFault → Type 0
IsMergeFault input (Facts fault) = IsFactsFault input fault
IsMergeFault input Memory = IsLinesFault input lines.Memory
IsMergeFault input _ = ⊥

-- ---- what the commands refuse

abbrev pub refusing_audit : List Given → Sides → Refusing
refusing_audit given sides input fault = IsAuditFault input given sides fault

abbrev pub refusing_merge : Refusing
refusing_merge input fault = IsMergeFault input fault
