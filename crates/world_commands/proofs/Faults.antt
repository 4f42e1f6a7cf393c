-- Faults of an input whose middle section is a script.
use Rattle.std.proofs.Common.{ℕ, List}
use Rattle.domains.specs.Sides.{Sides}
use Rattle.gossip_events.specs.ScriptFaults.{IsScriptFault}
use Rattle.gossip_events.specs.declared.fault.ScriptFault.{ScriptFault}
use Rattle.gossip_events.specs.declared.fault.ScriptFault.TheVariants as scripts
use Rattle.command_inputs.specs.Faults.{IsFaultAround}
use Rattle.command_inputs.specs.Giving.{Given}
use Rattle.command_inputs.specs.Input.{IsInputAround}
use Rattle.command_faults.specs.StepFaults.{fault_at_script}
use Rattle.command_faults.specs.declared.faults.StreamFault.{StreamFault}
use Rattle.command_faults.specs.declared.faults.StreamFault.TheVariants as faults
use Rattle.job.specs.Pipeline.{Pipeline}
use Rattle.command_inputs.specs.JobCatalog.{catalog_of}
use Rattle.pipe_tree.specs.Tree.{Declaration}
use Rattle.world_commands.specs.WorldFaults.{IsWorldFault}

-- those of the sections around it
pub world_fault_around : (input : List ℕ) (given : List Given) (sides : Sides) (f : StreamFault) → IsFaultAround input given sides f
    → IsWorldFault input given sides f
world_fault_around input given sides (faults.Program x) is = is
world_fault_around input given sides (faults.Tables x) is = is
world_fault_around input given sides (faults.Picture x) is = is
world_fault_around input given sides (faults.Check x) is = is
world_fault_around input given sides (faults.Param x) is = is
world_fault_around input given sides (faults.Bind x) is = is
world_fault_around input given sides (faults.Facts x) is = is
world_fault_around input given sides (faults.Script x) is = absurd is
world_fault_around input given sides (faults.Farm x) is = is
world_fault_around input given sides faults.NoSeparator is = is
world_fault_around input given sides faults.Memory is = is
world_fault_around input given sides faults.Read is = is
world_fault_around input given sides faults.TooLong is = is
world_fault_around input given sides faults.Write is = is

-- and its own
pub script_fault : (input script : List ℕ) (given : List Given) (sides : Sides) (tree : List Declaration) (job : Pipeline)
    (f : ScriptFault)
    → IsInputAround input given sides tree job script → IsScriptFault (catalog_of tree job) script f
    → IsWorldFault input given sides (fault_at_script f)
script_fault input script given sides tree job (scripts.BadLine n) around is =
    record { tree = tree; job = job; script = script; around = around; faulty = is; told = λ e. cc }
script_fault input script given sides tree job (scripts.NoSuchJob n) around is =
    record { tree = tree; job = job; script = script; around = around; faulty = is; told = λ e. cc }
script_fault input script given sides tree job scripts.TooManyEvents around is =
    record { tree = tree; job = job; script = script; around = around; faulty = is; told = λ e. cc }
script_fault input script given sides tree job scripts.Memory around is = tt
