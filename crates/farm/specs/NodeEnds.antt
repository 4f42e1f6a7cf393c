-- The workers of each node at the end of a farm, and what closing the nodes gives. Each node has two workers, whose ends come one
-- after the other, node after node.
use Rattle.std.specs.Prelude.{◌≡◌, ◌<◌, ◌*◌, ℕ, List, [], All, Some, drop, map, slice_get, take}
use Rattle.farm.specs.declared.fault.FarmFault.{FarmFault}
use Rattle.farm.specs.declared.fault.FarmFault.TheVariants.{SpawnFailed, Memory, Close}
use Rattle.farm.specs.declared.hand.WorkerReceipts.{WorkerReceipts}
use Rattle.live_nodes.specs.Accounts.{AccountFor}
use Rattle.live_nodes.specs.Ends.{End, IsSomeCloseFault, receipts_of}
use Rattle.live_nodes.specs.declared.event.Event.{Event}
use Rattle.live_nodes.specs.declared.fault.CloseFault.TheVariants.{ReceiptMismatch}

-- no receipt is there yet
abbrev pub IsNewEnd : WorkerReceipts → Type 0
IsNewEnd end = end.receipts.items ≡ []

abbrev pub AreNewEnds : List WorkerReceipts → Type 0
AreNewEnds ends = All IsNewEnd ends

-- a worker's seat with its receipts
abbrev pub end_of : WorkerReceipts → End
end_of end = (end.seat, end.receipts)

-- those of the workers of a node
abbrev pub ends_of_node : List WorkerReceipts → ℕ → List End
ends_of_node ends node = map end_of (take 2 (drop (2 * node) ends))

-- the receipts of each node's workers account for its history
abbrev pub HaveClosed : List (List Event) → List WorkerReceipts → Type 0
HaveClosed histories ends =
    (node : ℕ) (history : List Event) → slice_get histories node ≡ Some history
    → AccountFor history (receipts_of (ends_of_node ends node))

-- a receipt of this number does not match the history of some node
abbrev pub IsClosingFault : ℕ → List WorkerReceipts → FarmFault → Type 0
IsClosingFault nodes ends (SpawnFailed refusal) = ⊥
IsClosingFault nodes ends Memory = Unit {0}
IsClosingFault nodes ends (Close refusal) =
    (node : ℕ) × (node < nodes) × IsSomeCloseFault (ends_of_node ends node) (ReceiptMismatch refusal.number)
