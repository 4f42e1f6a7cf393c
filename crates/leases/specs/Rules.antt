-- How calls are answered after a history, what is recorded of them, and which histories calls make.
use Rattle.std.specs.Prelude.{ℕ, ◌+◌, ◌≤◌, ◌==◌, max, min, if◌then◌else◌, Option, Some, None, List, [], ◌∷◌, ◌++◌}
use Rattle.std.specs.Option.{option_map}
use Rattle.identity.specs.declared.key.Key.{Key}
use Rattle.leases.specs.declared.answer.Claim.{Claim}
use Rattle.leases.specs.declared.answer.Claim.TheVariants as claim
use Rattle.leases.specs.declared.answer.Release.{Release}
use Rattle.leases.specs.declared.answer.Release.TheVariants as release
use Rattle.leases.specs.declared.entry.Lease.{Lease}
use Rattle.leases.specs.declared.entry.LeaseEntry.{LeaseEntry}
use Rattle.leases.specs.declared.entry.LeaseEntry.TheVariants as entry
use Rattle.leases.specs.Leases.{in_force}

-- when a lease ends that is claimed at `time` for `ttl`: times have 64 bits
abbrev pub until_of : ℕ → ℕ → ℕ
until_of time ttl = min (time + ttl) 18446744073709551615

-- the answer to a claim when that lease of the key is in force, or none
abbrev pub claim_by : Option Lease → ℕ → ℕ → ℕ → Claim
claim_by None time node ttl = claim.Granted (until_of time ttl)
claim_by (Some lease) time node ttl =
    if lease.node == node then claim.Renewed (until_of time ttl) else claim.Held lease.node lease.until

-- and after a history, where there is memory
abbrev pub claim_answer : List LeaseEntry → ℕ → ℕ → Key → ℕ → Claim
claim_answer h time node key ttl = claim_by (in_force key time h) time node ttl

-- the answer to a release
abbrev pub release_by : Option Lease → ℕ → Release
release_by None node = release.NotHolder
release_by (Some lease) node = if lease.node == node then release.Released else release.NotHolder

abbrev pub release_answer : List LeaseEntry → ℕ → ℕ → Key → Release
release_answer h time node key = release_by (in_force key time h) node

-- whose lease of the key is in force
abbrev pub holder_of : List LeaseEntry → ℕ → Key → Option ℕ
holder_of h time key = option_map (λ lease. lease.node) (in_force key time h)

-- the lease that a claim gives
abbrev pub lease_of : ℕ → ℕ → Claim → Option Lease
lease_of time node (claim.Granted until) = Some (record { node = node; from = time; until = until })
lease_of time node (claim.Renewed until) = Some (record { node = node; from = time; until = until })
lease_of time node (claim.Held by until) = None
lease_of time node claim.Memory = None

-- what is recorded of a claim
abbrev pub claim_entry : ℕ → ℕ → Key → Claim → Option LeaseEntry
claim_entry time node key (claim.Granted until) = Some (entry.Granted key (record { node = node; from = time; until = until }))
claim_entry time node key (claim.Renewed until) = Some (entry.Renewed key (record { node = node; from = time; until = until }))
claim_entry time node key (claim.Held by until) = Some (entry.Held key node time)
claim_entry time node key claim.Memory = None

-- what is recorded of a release
abbrev pub release_entry : ℕ → ℕ → Key → Release → Option LeaseEntry
release_entry time node key release.Released = Some (entry.Released key node time)
release_entry time node key release.NotHolder = None

-- the history with what is recorded of one more call
abbrev pub with_entry : List LeaseEntry → Option LeaseEntry → List LeaseEntry
with_entry h None = h
with_entry h (Some e) = h ++ e ∷ []

-- the time after a claim; one without memory has no effect
abbrev pub time_after : ℕ → ℕ → Claim → ℕ
time_after time now (claim.Granted until) = max time now
time_after time now (claim.Renewed until) = max time now
time_after time now (claim.Held by until) = max time now
time_after time now claim.Memory = time

-- the entries are of calls at times that never fall, each as the rules answer after those before it. The time is not before them
pub data IsLegal : List LeaseEntry → ℕ → Type 0 where
  empty : IsLegal [] 0
  later : (h : List LeaseEntry) (time now : ℕ) → IsLegal h time → time ≤ now → IsLegal h now
  claimed : (h : List LeaseEntry) (time node : ℕ) (key : Key) (ttl : ℕ) → IsLegal h time
      → IsLegal (with_entry h (claim_entry time node key (claim_answer h time node key ttl))) time
  released : (h : List LeaseEntry) (time node : ℕ) (key : Key) → IsLegal h time
      → IsLegal (with_entry h (release_entry time node key (release_answer h time node key))) time
