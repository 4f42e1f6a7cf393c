-- The leases of a key by a history of entries, and which of them is in force at a time.
use Rattle.std.specs.Prelude.{ℕ, Bool, false, ◌&&◌, nat_le, nat_lt, min, if◌then◌else◌, Option, Some, None, List, [], ◌∷◌, ◌++◌}
use Rattle.std.specs.List.{find}
use Rattle.std.specs.Option.{option_map, option_to_list}
use Rattle.std.specs.Ordering.{is_eq}
use Rattle.identity.specs.Keys.{key_cmp}
use Rattle.identity.specs.declared.key.Key.{Key}
use Rattle.leases.specs.declared.entry.Lease.{Lease}
use Rattle.leases.specs.declared.entry.LeaseEntry.{LeaseEntry}
use Rattle.leases.specs.declared.entry.LeaseEntry.TheVariants.{Granted, Renewed, Held, Released}

-- whether two keys are one
abbrev pub is_same_key : Key → Key → Bool
is_same_key a b = is_eq (key_cmp a b)

-- when an entry was made
abbrev pub time_of : LeaseEntry → ℕ
time_of (Granted key lease) = lease.from
time_of (Renewed key lease) = lease.from
time_of (Held key node time) = time
time_of (Released key node time) = time

-- whether an entry is a renewal or a release of key q, and so ends the lease of q before it
abbrev pub ends : Key → LeaseEntry → Bool
ends q (Granted key lease) = false
ends q (Renewed key lease) = is_same_key key q
ends q (Held key node time) = false
ends q (Released key node time) = is_same_key key q

-- when a lease of q that was to last until `until` ends: with the next renewal or release of q in the later entries, if that is
-- sooner
abbrev pub end_of : Key → ℕ → List LeaseEntry → ℕ
end_of q until [] = until
end_of q until (e ∷ later) = if ends q e then min until (time_of e) else end_of q until later

-- the lease of q that an entry gives, as it was to last
abbrev pub entry_lease : Key → LeaseEntry → Option Lease
entry_lease q (Granted key lease) = if is_same_key key q then Some lease else None
entry_lease q (Renewed key lease) = if is_same_key key q then Some lease else None
entry_lease q (Held key node time) = None
entry_lease q (Released key node time) = None

-- a lease of q until its end, by the entries after it
abbrev pub ended_lease : Key → List LeaseEntry → Lease → Lease
ended_lease q later lease = record lease { until = end_of q lease.until later }

-- the leases of q, each until its end
abbrev pub leases_of : Key → List LeaseEntry → List Lease
leases_of q [] = []
leases_of q (e ∷ later) = option_to_list (option_map (ended_lease q later) (entry_lease q e)) ++ leases_of q later

-- whether a lease is in force at time x: it has begun, and is not over
abbrev pub lasts : ℕ → Lease → Bool
lasts x lease = nat_le lease.from x && nat_lt x lease.until

-- the lease of q in force at time x
abbrev pub in_force : Key → ℕ → List LeaseEntry → Option Lease
in_force q x h = find (lasts x) (leases_of q h)
