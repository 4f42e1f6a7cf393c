-- The numbers and the printed names of the faults.
use Rattle.std.specs.Prelude.{ℕ, List, codes}
use Rattle.gossip_events.specs.declared.fault.ScriptFault.{ScriptFault}
use Rattle.gossip_events.specs.declared.fault.ScriptFault.TheVariants.{BadLine, NoSuchJob, TooManyEvents, Memory}

abbrev pub number_of : ScriptFault → ℕ
number_of (BadLine line) = 1
number_of (NoSuchJob line) = 2
number_of TooManyEvents = 3
number_of Memory = 4

abbrev pub name_of : ScriptFault → List ℕ
name_of (BadLine line) = codes "BadLine"
name_of (NoSuchJob line) = codes "NoSuchJob"
name_of TooManyEvents = codes "TooManyEvents"
name_of Memory = codes "Memory"
