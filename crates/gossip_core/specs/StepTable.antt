-- The numbers and the printed names of the faults of events.
use Rattle.std.specs.Prelude.{ℕ, List, codes}
use Rattle.gossip_core.specs.declared.fault.StepFault.{StepFault}
use Rattle.gossip_core.specs.declared.fault.StepFault.TheVariants.{NoSuchNode, NoSuchMessage, WrongAddress, Make, NotHeld, Memory}

abbrev pub number_of : StepFault → ℕ
number_of NoSuchNode = 1
number_of NoSuchMessage = 2
number_of WrongAddress = 3
number_of (Make fault) = 4
number_of (NotHeld key) = 5
number_of Memory = 6

abbrev pub name_of : StepFault → List ℕ
name_of NoSuchNode = codes "NoSuchNode"
name_of NoSuchMessage = codes "NoSuchMessage"
name_of WrongAddress = codes "WrongAddress"
name_of (Make fault) = codes "Make"
name_of (NotHeld key) = codes "NotHeld"
name_of Memory = codes "Memory"
