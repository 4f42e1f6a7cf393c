-- How a fault is reported: its number, its name and its offset.
use Rattle.std.specs.Prelude.{ℕ, List, codes, Option, Some, None}
use Rattle.pipe_tree.specs.declared.fault.ParseFault.{ParseFault}
use Rattle.pipe_tree.specs.declared.fault.ParseFault.TheVariants.{NotAscii, BadToken, Unexpected, NumberTooBig, TooDeep, TooLong}
use Rattle.pipe_tree.specs.declared.fault.ParseFault.TheVariants.{TooMany, Memory}

abbrev pub number_of : ParseFault → ℕ
number_of (NotAscii offset) = 1
number_of (BadToken offset) = 2
number_of (Unexpected offset) = 3
number_of (NumberTooBig offset) = 4
number_of (TooDeep offset) = 5
number_of (TooLong offset) = 6
number_of (TooMany offset) = 7
number_of Memory = 8

abbrev pub name_of : ParseFault → List ℕ
name_of (NotAscii offset) = codes "NotAscii"
name_of (BadToken offset) = codes "BadToken"
name_of (Unexpected offset) = codes "Unexpected"
name_of (NumberTooBig offset) = codes "NumberTooBig"
name_of (TooDeep offset) = codes "TooDeep"
name_of (TooLong offset) = codes "TooLong"
name_of (TooMany offset) = codes "TooMany"
name_of Memory = codes "Memory"

abbrev pub offset_of : ParseFault → Option ℕ
offset_of (NotAscii offset) = Some offset
offset_of (BadToken offset) = Some offset
offset_of (Unexpected offset) = Some offset
offset_of (NumberTooBig offset) = Some offset
offset_of (TooDeep offset) = Some offset
offset_of (TooLong offset) = Some offset
offset_of (TooMany offset) = Some offset
offset_of Memory = None
