-- When a desk stands for a history.
use Rattle.std.specs.Prelude.{◌≡◌, ℕ, nat_lt, if◌then◌else◌, Option, Some, None, List}
use Rattle.std.specs.BTreeMap.{get, btree_map_len}
use Rattle.std.specs.Option.{option_and_then}
use Rattle.identity.specs.Keys.{key_cmp}
use Rattle.identity.specs.declared.key.Key.{Key}
use Rattle.leases.specs.declared.desk.Desk.{Desk}
use Rattle.leases.specs.declared.entry.LeaseEntry.{LeaseEntry}
use Rattle.leases.specs.declared.entry.Lease.{Lease}
use Rattle.leases.specs.Leases.{in_force}
use Rattle.leases.specs.Rules.{IsLegal}

-- a lease, while it is not over
abbrev pub lease_unless_over : ℕ → Option Lease → Option Lease
lease_unless_over x o = option_and_then (λ lease. if nat_lt x lease.until then Some lease else None) o

-- the lease of a key that a desk shows at a time
abbrev pub shown_lease : ℕ → Desk → Key → Option Lease
shown_lease x desk key = lease_unless_over x (get key_cmp desk.leases key)

-- the desk is at that time, and shows of each key the lease that is then in force by the history, or none
pub record StandsFor (desk : Desk) (h : List LeaseEntry) (time : ℕ) : Type 0 where
  pub legal : IsLegal h time
  pub clock : desk.clock ≡ time
  pub shows : (key : Key) → shown_lease time desk key ≡ in_force key time h

-- how many leases a desk keeps, those that are over included
abbrev pub lease_count : Desk → ℕ
lease_count desk = btree_map_len desk.leases
