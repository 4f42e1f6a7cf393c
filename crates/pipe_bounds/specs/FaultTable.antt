-- The numbers and the printed names of the faults.
use Rattle.std.specs.Prelude.{ℕ, List, codes}
use Rattle.pipe_bounds.specs.declared.fault.ParamFault.{ParamFault}
use Rattle.pipe_bounds.specs.declared.fault.ParamFault.TheVariants.{NoSuchParam, SetTwice}
use Rattle.pipe_bounds.specs.declared.fault.BoundFault.{BoundFault}
use Rattle.pipe_bounds.specs.declared.fault.BoundFault.TheVariants as bound

abbrev pub param_number : ParamFault → ℕ
param_number NoSuchParam = 1
param_number SetTwice = 2

abbrev pub param_name : ParamFault → List ℕ
param_name NoSuchParam = codes "NoSuchParam"
param_name SetTwice = codes "SetTwice"

abbrev pub bound_number : BoundFault → ℕ
bound_number (bound.ParamUnset param) = 1
bound_number (bound.EmptyDomain stage) = 2
bound_number (bound.DomainTooWide stage) = 3
bound_number (bound.OutOfBounds stage case read axis least greatest) = 4
bound_number bound.Memory = 5
bound_number (bound.EmptyTable table) = 6
bound_number (bound.TableTooWide table) = 7

abbrev pub bound_name : BoundFault → List ℕ
bound_name (bound.ParamUnset param) = codes "ParamUnset"
bound_name (bound.EmptyDomain stage) = codes "EmptyDomain"
bound_name (bound.DomainTooWide stage) = codes "DomainTooWide"
bound_name (bound.OutOfBounds stage case read axis least greatest) = codes "OutOfBounds"
bound_name bound.Memory = codes "Memory"
bound_name (bound.EmptyTable table) = codes "EmptyTable"
bound_name (bound.TableTooWide table) = codes "TableTooWide"
