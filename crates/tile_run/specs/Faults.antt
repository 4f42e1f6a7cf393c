-- The numbers and the printed names of the fault of a run.
use Rattle.std.specs.Prelude.{ℕ, List, codes}
use Rattle.tile_run.specs.declared.fault.RunFault.{RunFault}
use Rattle.tile_run.specs.declared.fault.RunFault.TheVariants as run

abbrev pub run_number : RunFault → ℕ
run_number (run.ScratchTooBig key) = 1
run_number run.Memory = 2

abbrev pub run_name : RunFault → List ℕ
run_name (run.ScratchTooBig key) = codes "ScratchTooBig"
run_name run.Memory = codes "Memory"
