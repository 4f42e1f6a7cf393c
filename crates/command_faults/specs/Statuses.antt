-- The status that reports a fault.
use Rattle.std.specs.Prelude.{ℕ}
use Rattle.command_faults.specs.declared.faults.StreamFault.{StreamFault}
use Rattle.command_faults.specs.declared.faults.StreamFault.TheVariants.{Read, TooLong, NoSeparator, Program, Tables, Picture, Check, Param}
use Rattle.command_faults.specs.declared.faults.StreamFault.TheVariants.{Bind, Facts, Script, Farm, Memory, Write}

-- the status that a program ends with at a fault
abbrev pub status_of : StreamFault → ℕ
status_of (Param _) = 1
status_of TooLong = 2
status_of NoSeparator = 2
status_of (Tables _) = 2
status_of (Picture _) = 2
status_of (Facts _) = 2
status_of (Script _) = 2
status_of (Program _) = 3
status_of (Check _) = 3
status_of (Bind _) = 3
status_of Read = 4
status_of Write = 4
status_of (Farm _) = 4
status_of Memory = 5
