-- The faults of a schedule, by number and name.
use Rattle.std.specs.Prelude.{ℕ, List, codes}
use Rattle.grouping.specs.declared.fault.ScheduleFault.{ScheduleFault}
use Rattle.grouping.specs.declared.fault.ScheduleFault.TheVariants.{OutputInlined, Memory}

abbrev pub schedule_number : ScheduleFault → ℕ
schedule_number (OutputInlined g) = 1
schedule_number Memory = 2

abbrev pub schedule_name : ScheduleFault → List ℕ
schedule_name (OutputInlined g) = codes "OutputInlined"
schedule_name Memory = codes "Memory"
