-- The numbers and the printed names of the faults of `make`.
use Rattle.std.specs.Prelude.{ℕ, List, codes}
use Rattle.overlap_tiles.specs.declared.fault.PlanFault.{PlanFault}
use Rattle.overlap_tiles.specs.declared.fault.PlanFault.TheVariants as plan
use Rattle.held_facts.specs.declared.make_fault.MakeFault.{MakeFault}
use Rattle.held_facts.specs.declared.make_fault.MakeFault.TheVariants.{Foreign, NoSuchTile, NeedMissing, NeedDisputed}
use Rattle.held_facts.specs.declared.make_fault.MakeFault.TheVariants.{NeedMisshapen, ScratchTooBig, Memory, Retired}

abbrev pub make_number : MakeFault → ℕ
make_number Foreign = 1
make_number NoSuchTile = 2
make_number (NeedMissing need) = 3
make_number (NeedDisputed need) = 4
make_number (NeedMisshapen need) = 5
make_number ScratchTooBig = 6
make_number Memory = 7
make_number Retired = 8

abbrev pub make_name : MakeFault → List ℕ
make_name Foreign = codes "Foreign"
make_name NoSuchTile = codes "NoSuchTile"
make_name (NeedMissing need) = codes "NeedMissing"
make_name (NeedDisputed need) = codes "NeedDisputed"
make_name (NeedMisshapen need) = codes "NeedMisshapen"
make_name ScratchTooBig = codes "ScratchTooBig"
make_name Memory = codes "Memory"
make_name Retired = codes "Retired"

-- a tile without a plan is not made
abbrev pub of_plan : PlanFault → MakeFault
of_plan plan.NoSuchTile = NoSuchTile
of_plan plan.ScratchTooBig = ScratchTooBig
of_plan plan.Memory = Memory
