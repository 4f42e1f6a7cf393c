-- What a mailbox holds, and what is put into it and taken out of it.
use Rattle.std.specs.Prelude.{◌≡◌, ℕ, List, [], ◌∷◌, ◌++◌, All}
use Rattle.catalog.specs.Entries.{Entry}
use Rattle.crossbeam_queue.specs.Fifo.{Held}
use Rattle.posts.specs.declared.parcel.ParcelMoves.{ParcelMoves}
use Rattle.posts.specs.declared.parcel.Parcel.{Parcel}
use Rattle.updates.specs.TrueUpdates.{AreTrue}

abbrev pub moves : List Parcel → List Parcel → ParcelMoves
moves puts takes = record { puts = puts; takes = takes }

-- each of its updates is true of the jobs of the catalog
abbrev pub IsTrueParcel : List Entry → Parcel → Type 0
IsTrueParcel catalog parcel = AreTrue catalog parcel.updates.items

abbrev pub AreTrueParcels : List Entry → List Parcel → Type 0
AreTrueParcels catalog parcels = All (IsTrueParcel catalog) parcels

-- the mailbox has only true parcels, whatever was put and taken by which pass
abbrev pub HasTrueParcels : List Entry → List Parcel → List ParcelMoves → Type 0
HasTrueParcels catalog parcels passes = AreTrueParcels catalog parcels

-- at one moment of a call the mailbox of this capacity held so many parcels, all of them true
abbrev pub WasFull : List Entry → ℕ → Type 0
WasFull catalog capacity = Held capacity (AreTrueParcels catalog)

-- the parcel is put, after all that was put before, and nothing is taken
abbrev pub Puts : ParcelMoves → Parcel → ParcelMoves → Type 0
Puts before parcel after = after ≡ moves (before.puts ++ parcel ∷ []) before.takes

-- the parcel, which has true updates, is taken, after all that was taken before, and nothing is put
abbrev pub Takes : List Entry → ParcelMoves → Parcel → ParcelMoves → Type 0
Takes catalog before parcel after = (after ≡ moves before.puts (before.takes ++ parcel ∷ [])) × IsTrueParcel catalog parcel
