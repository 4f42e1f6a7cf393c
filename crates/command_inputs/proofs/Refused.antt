-- Why a catalog without jobs refuses one.
use Rattle.std.proofs.Common.{[], refl}
use Rattle.std.specs.Prelude.{◌≢◌}
use Rattle.std.proofs.lemmas.Option.{none-some}
use Rattle.catalog.specs.Entries.{Entry}
use Rattle.catalog.specs.Refusals.{IsRefusal}
use Rattle.catalog.specs.declared.fault.AdmitFault.{AdmitFault}
use Rattle.catalog.specs.declared.fault.AdmitFault.TheVariants.{Same, Clash, Full, Memory}

-- for memory alone
pub only_memory : (entry : Entry) (fault : AdmitFault) → fault ≢ Memory → IsRefusal [] entry fault → ⊥
only_memory entry (Same i) other twin = none-some twin.0 twin.1
only_memory entry (Clash i) other twin = none-some twin.0 twin.1
only_memory entry Full other full = cc
only_memory entry Memory other is = other refl
