-- The numbers and the printed names of the faults, and where each is.
use Rattle.std.specs.Prelude.{ℕ, List, codes, Option, Some, None}
use Rattle.tile_fact.specs.declared.fault.FactFault.{FactFault}
use Rattle.tile_fact.specs.declared.fault.FactFault.TheVariants.{BadMagic, Cut, NotRising, BadKind, TooLong, TrailingBytes, Memory, RetiredFact}
use Rattle.tile_fact.specs.declared.fault.FactFault.TheVariants.{NothingRetired}

abbrev pub number_of : FactFault → ℕ
number_of (BadMagic at) = 1
number_of (Cut at) = 2
number_of (NotRising at) = 3
number_of (BadKind at) = 4
number_of (TooLong at) = 5
number_of (TrailingBytes at) = 6
number_of Memory = 7
number_of (RetiredFact at) = 8
number_of (NothingRetired at) = 9

abbrev pub name_of : FactFault → List ℕ
name_of (BadMagic at) = codes "BadMagic"
name_of (Cut at) = codes "Cut"
name_of (NotRising at) = codes "NotRising"
name_of (BadKind at) = codes "BadKind"
name_of (TooLong at) = codes "TooLong"
name_of (TrailingBytes at) = codes "TrailingBytes"
name_of Memory = codes "Memory"
name_of (RetiredFact at) = codes "RetiredFact"
name_of (NothingRetired at) = codes "NothingRetired"

abbrev pub offset_of : FactFault → Option ℕ
offset_of (BadMagic at) = Some at
offset_of (Cut at) = Some at
offset_of (NotRising at) = Some at
offset_of (BadKind at) = Some at
offset_of (TooLong at) = Some at
offset_of (TrailingBytes at) = Some at
offset_of Memory = None
offset_of (RetiredFact at) = Some at
offset_of (NothingRetired at) = Some at
