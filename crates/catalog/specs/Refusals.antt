-- Which jobs a catalog refuses.
use Rattle.std.specs.Prelude.{ℕ, ◌≡◌, ◌<◌, List, Some, length, slice_get}
use Rattle.catalog.specs.declared.fault.AdmitFault.{AdmitFault}
use Rattle.catalog.specs.declared.fault.AdmitFault.TheVariants.{Same, Clash, Full, Memory}
use Rattle.catalog.specs.Entries.{Entry, ids_of, StandsAt, AreHashedAlike}

-- no job in the catalog has the identities of this one
abbrev pub IsNew : List Entry → Entry → Type 0
IsNew entries entry = (i : ℕ) → ¬ (StandsAt entries (ids_of entry) i)

-- a job with the identities of this one is at this place, and P holds of it
abbrev pub HasTwin : (Entry → Type 0) → List Entry → Entry → ℕ → Type 0
HasTwin P entries entry i = (twin : Entry) × (slice_get entries i ≡ Some twin) × (ids_of twin ≡ ids_of entry) × P twin

abbrev pub IsRefusal : List Entry → Entry → AdmitFault → Type 0
-- it is in the catalog already: the same bytes are hashed of both
IsRefusal entries entry (Same i) = HasTwin (λ twin. AreHashedAlike twin entry) entries entry i
-- other bytes have equal digests
IsRefusal entries entry (Clash i) = HasTwin (λ twin. ¬ (AreHashedAlike twin entry)) entries entry i
IsRefusal entries entry Full = IsNew entries entry × (length entries ≡ 16)
IsRefusal entries entry Memory = IsNew entries entry × (length entries < 16)

-- a catalog admits a job that is new to it, if it is not full
abbrev pub IsAdmitted : List Entry → Entry → Type 0
IsAdmitted entries entry = IsNew entries entry × (length entries < 16)
