-- The numbers and the printed names of the faults.
use Rattle.std.specs.Prelude.{ℕ, List, codes}
use Rattle.tables.specs.declared.fault.TableFault.{TableFault}
use Rattle.tables.specs.declared.fault.TableFault.TheVariants.{BadLine, Memory}

abbrev pub number_of : TableFault → ℕ
number_of BadLine = 1
number_of Memory = 2

abbrev pub name_of : TableFault → List ℕ
name_of BadLine = codes "BadLine"
name_of Memory = codes "Memory"
