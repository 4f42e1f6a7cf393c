-- Numbers and printed names of the faults of a farm, and which is reported at its end.
use Rattle.std.specs.Prelude.{ℕ, Bool, true, false, List, Result, Ok, Err, codes}
use Rattle.farm.specs.declared.fault.FarmFault.{FarmFault}
use Rattle.farm.specs.declared.fault.FarmFault.TheVariants.{SpawnFailed, Memory, Close}
use Rattle.live_nodes.specs.declared.fault.CloseFault.{CloseFault}
use Rattle.live_nodes.specs.declared.fault.CloseFault.TheVariants as closes

abbrev pub farm_fault_number : FarmFault → ℕ
farm_fault_number (SpawnFailed refusal) = 1
farm_fault_number Memory = 2
farm_fault_number (Close refusal) = 3

abbrev pub farm_fault_name : FarmFault → List ℕ
farm_fault_name (SpawnFailed refusal) = codes "SpawnFailed"
farm_fault_name Memory = codes "Memory"
farm_fault_name (Close refusal) = codes "Close"

-- why a node does not close
abbrev pub fault_of_close : CloseFault → FarmFault
fault_of_close (closes.ReceiptMismatch number) = Close (record { number = number })
fault_of_close closes.Memory = Memory

-- the fault names no receipt of a node
abbrev pub IsBeforeClosing : FarmFault → Type 0
IsBeforeClosing (SpawnFailed refusal) = Unit {0}
IsBeforeClosing Memory = Unit {0}
IsBeforeClosing (Close refusal) = ⊥

-- the result of closing all nodes: why one does not close, or else that some worker ran out of memory
abbrev pub result_of_closing : {X : Type 0} → Bool → Result X FarmFault → Result X FarmFault
result_of_closing memory (Err fault) = Err fault
result_of_closing true (Ok closed) = Err Memory
result_of_closing false (Ok closed) = Ok closed
