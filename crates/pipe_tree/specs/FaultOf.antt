-- The fault of a text, by its kind and its offset.
use Rattle.std.specs.Prelude.{ℕ}
use Rattle.pipe_tree.specs.declared.fault.ParseFaultKind.{ParseFaultKind}
use Rattle.pipe_tree.specs.declared.fault.ParseFaultKind.TheVariants as kinds
use Rattle.pipe_tree.specs.declared.fault.ParseFault.{ParseFault}
use Rattle.pipe_tree.specs.declared.fault.ParseFault.TheVariants as faults

abbrev pub fault_of : ParseFaultKind → ℕ → ParseFault
fault_of kinds.NotAscii offset = faults.NotAscii offset
fault_of kinds.BadToken offset = faults.BadToken offset
fault_of kinds.Unexpected offset = faults.Unexpected offset
fault_of kinds.NumberTooBig offset = faults.NumberTooBig offset
fault_of kinds.TooDeep offset = faults.TooDeep offset
fault_of kinds.TooMany offset = faults.TooMany offset
