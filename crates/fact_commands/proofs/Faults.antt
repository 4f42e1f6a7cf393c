-- Faults of an input of fact files, and of one whose middle section is fact files.
use Rattle.std.proofs.Common.{ℕ, List}
use Rattle.domains.specs.Sides.{Sides}
use Rattle.fact_lines.specs.Faults.{IsFault as IsLinesFault}
use Rattle.fact_lines.specs.declared.fault.FactLinesFault.{FactLinesFault}
use Rattle.fact_lines.specs.declared.fault.FactLinesFault.TheVariants as lines
use Rattle.job.specs.Pipeline.{Pipeline}
use Rattle.pipe_tree.specs.Tree.{Declaration}
use Rattle.command_faults.specs.StepFaults.{fault_at_lines}
use Rattle.command_faults.specs.declared.faults.StreamFault.{StreamFault}
use Rattle.command_faults.specs.declared.faults.StreamFault.TheVariants as faults
use Rattle.command_inputs.specs.Faults.{IsFaultAround}
use Rattle.command_inputs.specs.Giving.{Given}
use Rattle.command_inputs.specs.Input.{IsInputAround}
use Rattle.fact_commands.specs.FactFaults.{IsAuditFault, IsMergeFault}

pub audit_fault_around : (input : List ℕ) (given : List Given) (sides : Sides) (f : StreamFault) → IsFaultAround input given sides f
    → IsAuditFault input given sides f
audit_fault_around input given sides (faults.Program x) is = is
audit_fault_around input given sides (faults.Tables x) is = is
audit_fault_around input given sides (faults.Picture x) is = is
audit_fault_around input given sides (faults.Check x) is = is
audit_fault_around input given sides (faults.Param x) is = is
audit_fault_around input given sides (faults.Bind x) is = is
audit_fault_around input given sides (faults.Facts x) is = absurd is
audit_fault_around input given sides (faults.Script x) is = is
audit_fault_around input given sides (faults.Farm x) is = is
audit_fault_around input given sides faults.NoSeparator is = is
audit_fault_around input given sides faults.Memory is = is
audit_fault_around input given sides faults.Read is = is
audit_fault_around input given sides faults.TooLong is = is
audit_fault_around input given sides faults.Write is = is

pub audit_facts_fault : (input middle : List ℕ) (given : List Given) (sides : Sides) (tree : List Declaration) (job : Pipeline)
    (f : FactLinesFault)
    → IsInputAround input given sides tree job middle → IsLinesFault middle f → IsAuditFault input given sides (fault_at_lines f)
audit_facts_fault input middle given sides tree job (lines.BadHex n) around is =
    record { tree = tree; job = job; text = middle; around = around; bad = (is, λ e. cc) }
audit_facts_fault input middle given sides tree job (lines.BadFile n x) around is =
    record { tree = tree; job = job; text = middle; around = around; bad = (is, λ e. cc) }
audit_facts_fault input middle given sides tree job lines.Memory around is = tt

-- ---- faults of fact files

pub merge_fault : (input : List ℕ) (f : FactLinesFault) → IsLinesFault input f → IsMergeFault input (fault_at_lines f)
merge_fault input (lines.BadHex n) is = (is, λ e. cc)
merge_fault input (lines.BadFile n x) is = (is, λ e. cc)
merge_fault input lines.Memory is = is
