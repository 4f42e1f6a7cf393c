-- When receipts account for a history. They come in lists, one for each caller.
use Rattle.std.specs.List.{AllPairs}
use Rattle.std.specs.Prelude.{◌≡◌, ℕ, ◌<◌, ◌≤◌, ◌==◌, ◌⊎◌, if◌then◌else◌, List, [], ◌∷◌, ◌++◌, All, Some, length, slice_get, sum_by}
use Rattle.live_nodes.specs.declared.event.Event.{Event}
use Rattle.live_nodes.specs.declared.receipt.Receipt.{Receipt}
use Rattle.live_nodes.specs.declared.fault.CloseFault.{CloseFault}
use Rattle.live_nodes.specs.declared.fault.CloseFault.TheVariants.{ReceiptMismatch, Memory}

-- the history has the receipt's event at its number
abbrev pub IsShown : List Event → Receipt → Type 0
IsShown history r = slice_get history r.number ≡ Some r.event

abbrev pub IsBefore : Receipt → Receipt → Type 0
IsBefore r s = r.number < s.number

-- how many receipts of a list have the number, and how many of all lists
abbrev pub times : ℕ → List Receipt → ℕ
times k receipts = sum_by (λ r. if r.number == k then 1 else 0) receipts

abbrev pub times_all : ℕ → List (List Receipt) → ℕ
times_all k lists = sum_by (times k) lists

-- each receipt has the history's event at its number, each list rises, and no number occurs twice
pub record AreFit (history : List Event) (lists : List (List Receipt)) : Type 0 where
  pub shown : All (All (IsShown history)) lists
  pub rising : All (AllPairs IsBefore) lists
  pub once : (k : ℕ) → times_all k lists ≤ 1

-- and each event has its receipt
pub record AccountFor (history : List Event) (lists : List (List Receipt)) : Type 0 where
  pub fit : AreFit history lists
  pub each : (k : ℕ) → k < length history → times_all k lists ≡ 1

-- ---- why they do not

-- list after list, the first receipt that does not fit: the history has another event at its number, or none; an earlier receipt
-- has its number; or its number is not above the one before it in its list
pub record IsFirstUnfit (history : List Event) (lists : List (List Receipt)) (n : ℕ) : Type 0 where
  pub earlier : List (List Receipt)
  pub before : List Receipt
  pub receipt : Receipt
  pub behind : List Receipt
  pub later : List (List Receipt)
  pub parts : lists ≡ earlier ++ (before ++ receipt ∷ behind) ∷ later
  pub fit : AreFit history (earlier ++ before ∷ [])
  pub unfit : ¬ AreFit history (earlier ++ (before ++ receipt ∷ []) ∷ [])
  pub number : receipt.number ≡ n

-- all fit, and this is the least number of an event without a receipt
pub record IsFirstMissing (history : List Event) (lists : List (List Receipt)) (number : ℕ) : Type 0 where
  pub fit : AreFit history lists
  pub event : number < length history
  pub missing : times_all number lists ≡ 0
  pub first : (k : ℕ) → k < number → times_all k lists ≡ 1

abbrev pub IsMismatch : List Event → List (List Receipt) → ℕ → Type 0
IsMismatch history lists number = IsFirstUnfit history lists number ⊎ IsFirstMissing history lists number

abbrev pub IsCloseFault : List Event → List (List Receipt) → CloseFault → Type 0
IsCloseFault history lists (ReceiptMismatch number) = IsMismatch history lists number
IsCloseFault history lists Memory = Unit {0}
