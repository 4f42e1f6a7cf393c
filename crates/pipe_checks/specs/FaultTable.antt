-- The numbers and the printed names of the faults.
use Rattle.std.specs.Prelude.{ℕ, List, codes}
use Rattle.pipe_checks.specs.declared.fault.CheckFault.{CheckFault}
use Rattle.pipe_checks.specs.declared.fault.CheckFault.TheVariants as check

abbrev pub check_number : CheckFault → ℕ
check_number (check.Unknown item) = 1
check_number (check.Twice item) = 2
check_number (check.Kind item) = 3
check_number (check.BadKernel item) = 4
check_number (check.BadLiteral item) = 5
check_number check.NoResult = 6
check_number (check.Cycle stages) = 7
check_number check.Memory = 8

abbrev pub check_name : CheckFault → List ℕ
check_name (check.Unknown item) = codes "Unknown"
check_name (check.Twice item) = codes "Twice"
check_name (check.Kind item) = codes "Kind"
check_name (check.BadKernel item) = codes "BadKernel"
check_name (check.BadLiteral item) = codes "BadLiteral"
check_name check.NoResult = codes "NoResult"
check_name (check.Cycle stages) = codes "Cycle"
check_name check.Memory = codes "Memory"
