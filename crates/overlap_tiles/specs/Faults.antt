-- Why a tile has no plan, by number and name.
use Rattle.std.specs.Prelude.{ℕ, List, codes}
use Rattle.overlap_tiles.specs.declared.fault.PlanFault.{PlanFault}
use Rattle.overlap_tiles.specs.declared.fault.PlanFault.TheVariants.{NoSuchTile, ScratchTooBig, Memory}

abbrev pub plan_number : PlanFault → ℕ
plan_number NoSuchTile = 1
plan_number ScratchTooBig = 2
plan_number Memory = 3

abbrev pub plan_name : PlanFault → List ℕ
plan_name NoSuchTile = codes "NoSuchTile"
plan_name ScratchTooBig = codes "ScratchTooBig"
plan_name Memory = codes "Memory"
