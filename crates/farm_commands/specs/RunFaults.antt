-- Which fault of `run` is reported: the first one of its input, or else the farm's.
use Rattle.std.specs.Prelude.{ℕ, List}
use Rattle.domains.specs.Sides.{Sides}
use Rattle.farm.specs.declared.fault.FarmFault.{FarmFault}
use Rattle.farm.specs.declared.fault.FarmFault.TheVariants as farms
use Rattle.command_inputs.specs.Faults.{IsFaultOf}
use Rattle.command_inputs.specs.Giving.{Given}
use Rattle.command_inputs.specs.Input.{IsInputJob}
use Rattle.command_outcomes.specs.Outcomes.{Refusing}
use Rattle.command_faults.specs.declared.faults.StreamFault.{StreamFault}
use Rattle.command_faults.specs.declared.faults.StreamFault.TheVariants.{Farm, Memory}
use Rattle.command_faults.specs.declared.lines.FarmFaultLine.TheVariants.{SpawnFailed, Close}
use Rattle.job.specs.Pipeline.{Pipeline}
use Rattle.pipe_tree.specs.Tree.{Declaration}

-- how a farm's faults are reported
abbrev pub fault_at_farm : FarmFault → StreamFault
fault_at_farm (farms.SpawnFailed refusal) = Farm SpawnFailed
fault_at_farm farms.Memory = Memory
fault_at_farm (farms.Close n) = Farm Close

-- faults of a farm alone
abbrev pub IsOfFarm : StreamFault → Type 0
IsOfFarm (Farm line) = Unit {0}
IsOfFarm Memory = Unit {0}
IsOfFarm fault = ⊥

-- the program and the picture of the input have a job at the values that are given
pub record HasJob (input : List ℕ) (given : List Given) (sides : Sides) : Type 0 where
  pub tree : List Declaration
  pub job : Pipeline
  pub of_input : IsInputJob input given sides tree job

-- The first fault of an input of two sections; a farm's is reported only if the input has a job, and so no fault of its own.
abbrev pub IsRunFault : List ℕ → List Given → Sides → StreamFault → Type 0
IsRunFault input given sides (Farm line) = HasJob input given sides
IsRunFault input given sides fault = IsFaultOf input given sides fault

abbrev pub refusing_run : List Given → Sides → Refusing
refusing_run given sides input fault = IsRunFault input given sides fault
