-- Which numbers were seen on receipts.
use Rattle.std.specs.Prelude.{◌≡◌, ℕ, Bool, false, if◌then◌else◌, List, length, slice_index_or}
use Rattle.live_nodes.specs.declared.event.Event.{Event}
use Rattle.live_nodes.specs.declared.receipt.Receipt.{Receipt}
use Rattle.live_nodes.specs.Accounts.{AreFit, times_all}

-- 1 where the number is marked
abbrev pub mark : List Bool → ℕ → ℕ
mark seen k = if slice_index_or seen k false then 1 else 0

-- these lists fit, and the numbers on them are marked
pub record AreSeen (history : List Event) (lists : List (List Receipt)) (seen : List Bool) : Type 0 where
  pub fit : AreFit history lists
  pub marked : (k : ℕ) → mark seen k ≡ times_all k lists
  pub each : length seen ≡ length history
