-- How the result of a command is told on.
use Rattle.std.specs.Prelude.{Result, Ok, Err}
use Rattle.command_faults.specs.declared.faults.StreamFault.{StreamFault}

-- the same fault, or else what is made of the answer
abbrev pub told_as : {A B : Type 0} → (A → B) → Result A StreamFault → Result B StreamFault
told_as f (Ok answer) = Ok (f answer)
told_as f (Err fault) = Err fault
