-- The numbers and the printed names of the faults of worlds.
use Rattle.std.specs.Prelude.{ℕ, List, codes}
use Rattle.worlds.specs.declared.fault.FinishFault.{FinishFault}
use Rattle.worlds.specs.declared.fault.FinishFault.TheVariants as finish
use Rattle.worlds.specs.declared.fault.WorldFault.{WorldFault}
use Rattle.worlds.specs.declared.fault.WorldFault.TheVariants as world

abbrev pub world_number : WorldFault → ℕ
world_number world.BadCount = 1
world_number world.Memory = 2

abbrev pub world_name : WorldFault → List ℕ
world_name world.BadCount = codes "BadCount"
world_name world.Memory = codes "Memory"

abbrev pub finish_number : FinishFault → ℕ
finish_number finish.NoSuchNode = 1
finish_number finish.NoSuchJob = 2
finish_number (finish.ScratchTooBig key) = 3
finish_number finish.Memory = 4
finish_number finish.Retired = 5

abbrev pub finish_name : FinishFault → List ℕ
finish_name finish.NoSuchNode = codes "NoSuchNode"
finish_name finish.NoSuchJob = codes "NoSuchJob"
finish_name (finish.ScratchTooBig key) = codes "ScratchTooBig"
finish_name finish.Memory = codes "Memory"
finish_name finish.Retired = codes "Retired"
