-- Faults of `run`, by where they come from.
use Rattle.std.proofs.Common.{◌≡◌, ◌≤◌, ℕ, List, Option, Err, length}
use Rattle.std.specs.Prelude.{IfSome}
use Rattle.domains.specs.Sides.{Sides}
use Rattle.farm.specs.declared.fault.FarmFault.{FarmFault}
use Rattle.farm.specs.declared.fault.FarmFault.TheVariants as farms
use Rattle.farm_commands.specs.RunFaults.{IsOfFarm, IsRunFault, refusing_run, fault_at_farm}
use Rattle.command_inputs.specs.Faults.{IsFaultOf}
use Rattle.command_inputs.specs.Giving.{Given}
use Rattle.command_inputs.specs.Input.{IsReadJob}
use Rattle.command_outcomes.specs.Outcomes.{Saying, Writes, most_input}
use Rattle.command_faults.specs.declared.faults.StreamFault.{StreamFault}
use Rattle.command_faults.specs.declared.faults.StreamFault.TheVariants as faults
use Rattle.command_outcomes.proofs.Written.{input_fault}
use Rattle.job.specs.Kept.{pipeline_in}
use Rattle.job.specs.declared.job.Job.{Job}

-- those of a farm as they are told
pub of_farm : (f : FarmFault) → IsOfFarm (fault_at_farm f)
of_farm (farms.SpawnFailed refusal) = tt
of_farm farms.Memory = tt
of_farm (farms.Close n) = tt

-- those of the input
pub fault_of_input : (input : List ℕ) (given : List Given) (sides : Sides) (f : StreamFault) → IsFaultOf input given sides f
    → IsRunFault input given sides f
fault_of_input input given sides (faults.Program x) is = is
fault_of_input input given sides (faults.Tables x) is = is
fault_of_input input given sides (faults.Picture x) is = is
fault_of_input input given sides (faults.Check x) is = is
fault_of_input input given sides (faults.Param x) is = is
fault_of_input input given sides (faults.Bind x) is = is
fault_of_input input given sides (faults.Facts x) is = is
fault_of_input input given sides (faults.Script x) is = is
fault_of_input input given sides (faults.Farm x) is = absurd is
fault_of_input input given sides faults.NoSeparator is = is
fault_of_input input given sides faults.Memory is = is
fault_of_input input given sides faults.Read is = is
fault_of_input input given sides faults.TooLong is = is
fault_of_input input given sides faults.Write is = is

-- those of a farm, which has the job of the input
pub fault_of_farm : (input : List ℕ) (given : List Given) (sides : Sides) (job : Job) (f : StreamFault) → IsReadJob input given sides job
    → IsOfFarm f → IsRunFault input given sides f
fault_of_farm input given sides job (faults.Farm x) read is =
    record { tree = read.tree; job = pipeline_in job; of_input = read.of_input }
fault_of_farm input given sides job faults.Memory read is = tt
fault_of_farm input given sides job (faults.Program x) read is = absurd is
fault_of_farm input given sides job (faults.Tables x) read is = absurd is
fault_of_farm input given sides job (faults.Picture x) read is = absurd is
fault_of_farm input given sides job (faults.Check x) read is = absurd is
fault_of_farm input given sides job (faults.Param x) read is = absurd is
fault_of_farm input given sides job (faults.Bind x) read is = absurd is
fault_of_farm input given sides job (faults.Facts x) read is = absurd is
fault_of_farm input given sides job (faults.Script x) read is = absurd is
fault_of_farm input given sides job faults.NoSeparator read is = absurd is
fault_of_farm input given sides job faults.Read read is = absurd is
fault_of_farm input given sides job faults.TooLong read is = absurd is
fault_of_farm input given sides job faults.Write read is = absurd is

-- none of them has written anything
pub run_refused : {Answer : Type 0} (Says : Saying Answer) (known : Option (List ℕ)) (input : List ℕ) (given : List Given)
    (sides : Sides) (f : StreamFault) (old : Option (List ℕ)) → IfSome known (λ all. input ≡ all) → length input ≤ most_input
    → IsRunFault input given sides f → Writes Says (refusing_run given sides) known (Err f) old old
run_refused Says known input given sides f old all within is =
    input_fault Says (refusing_run given sides) known input f old (λ h. h) (λ h. h) all within is
