-- Which fault is reported of an input of three sections, of which the middle one is a script.
use Rattle.std.specs.Prelude.{◌≢◌, ℕ, List}
use Rattle.domains.specs.Sides.{Sides}
use Rattle.gossip_events.specs.ScriptFaults.{IsScriptFault}
use Rattle.gossip_events.specs.declared.fault.ScriptFault.{ScriptFault}
use Rattle.gossip_events.specs.declared.fault.ScriptFault.TheVariants as scripts
use Rattle.command_inputs.specs.Faults.{IsFaultAround}
use Rattle.command_inputs.specs.Giving.{Given}
use Rattle.command_inputs.specs.Input.{IsInputAround}
use Rattle.command_outcomes.specs.Outcomes.{Refusing}
use Rattle.command_faults.specs.declared.faults.StreamFault.{StreamFault}
use Rattle.command_faults.specs.declared.faults.StreamFault.TheVariants.{Script}
use Rattle.job.specs.Pipeline.{Pipeline}
use Rattle.command_inputs.specs.JobCatalog.{catalog_of}
use Rattle.pipe_tree.specs.Tree.{Declaration}

-- the first faulty line of the script, if the program and the picture have a job at the values that are given
pub record IsWorldScriptFault (input : List ℕ) (given : List Given) (sides : Sides) (fault : ScriptFault) : Type 0 where
  pub tree : List Declaration
  pub job : Pipeline
  pub script : List ℕ
  pub around : IsInputAround input given sides tree job script
  pub faulty : IsScriptFault (catalog_of tree job) script fault
  pub told : fault ≢ scripts.Memory

-- the first fault: a faulty line comes after those of the program, the picture and the job; memory may run out for any
abbrev pub IsWorldFault : List ℕ → List Given → Sides → StreamFault → Type 0
IsWorldFault input given sides (Script fault) = IsWorldScriptFault input given sides fault
IsWorldFault input given sides fault = IsFaultAround input given sides fault

abbrev pub refusing_world : List Given → Sides → Refusing
refusing_world given sides input fault = IsWorldFault input given sides fault
