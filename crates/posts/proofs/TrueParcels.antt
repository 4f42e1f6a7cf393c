-- A mailbox has true parcels alone, whatever is put in and taken out.
use Rattle.std.proofs.Common.{ℕ, List, [], ◌∷◌, ◌++◌, refl}
use Rattle.std.proofs.lemmas.List.Elements.{All-head, All-push, All-tail}
use Rattle.catalog.specs.Entries.{Entry}
use Rattle.crossbeam_queue.specs.Fifo.{Pops, Pushes}
use Rattle.posts.specs.declared.parcel.ParcelMoves.{ParcelMoves}
use Rattle.posts.specs.declared.parcel.Parcel.{Parcel}
use Rattle.posts.specs.Parcels.{moves, HasTrueParcels, IsTrueParcel, Puts, Takes}

pub pops_true : (catalog : List Entry) (pass : ℕ) (v : ParcelMoves) → Pops (HasTrueParcels catalog) pass v (Takes catalog v)
pops_true catalog pass v x items views all at =
    (moves v.puts (v.takes ++ x ∷ []), All-tail (IsTrueParcel catalog) x items all, (refl, All-head (IsTrueParcel catalog) x items all))

pub pushes_true : (catalog : List Entry) (n pass : ℕ) (v : ParcelMoves) (x : Parcel) → IsTrueParcel catalog x
    → Pushes (HasTrueParcels catalog) n pass v x (Puts v x)
pushes_true catalog n pass v x good items views room all at =
    (moves (v.puts ++ x ∷ []) v.takes, All-push (IsTrueParcel catalog) items x all good, refl)
