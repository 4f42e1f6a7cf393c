-- Parameters that have no value, and stages without a domain.
use Rattle.std.specs.Prelude.{ℕ, ◌<◌, ℤ, ◌≡◌, Some, None, Result, Ok, Err, List, length, slice_get}
use Rattle.domains.specs.declared.area.Area.{Area}
use Rattle.pipe_tree.specs.Tree.{Declaration}
use Rattle.pipe_checks.specs.declared.symbol.Symbol.{Symbol}
use Rattle.pipe_bounds.specs.declared.domain.IntervalFault.{IntervalFault}
use Rattle.pipe_bounds.specs.declared.fault.BoundFault.{BoundFault}
use Rattle.pipe_bounds.specs.declared.fault.BoundFault.TheVariants.{ParamUnset}
use Rattle.pipe_bounds.specs.declared.params.Setting.{Setting}
use Rattle.pipe_bounds.specs.Domains.{IsDomain}

-- ---- parameters

abbrev pub AllSet : List Setting → Type 0
AllSet ss = (k : ℕ) (s : Setting) → slice_get ss k ≡ Some s → (v : ℤ) × (s.value ≡ Some v)

-- parameter n is the first without a value
pub record IsFirstUnset (ss : List Setting) (n : ℕ) : Type 0 where
  pub setting : Setting
  pub there : slice_get ss n ≡ Some setting
  pub unset : setting.value ≡ None
  pub first : (k : ℕ) (s : Setting) → k < n → slice_get ss k ≡ Some s → (v : ℤ) × (s.value ≡ Some v)

-- all parameters have a value, or this is the first that has none
abbrev pub AreSet : List Setting → Result (Unit {0}) BoundFault → Type 0
AreSet ss (Ok u) = AllSet ss
AreSet ss (Err f) = (n : ℕ) × (f ≡ ParamUnset n) × IsFirstUnset ss n

-- ---- domains

-- the domain of a stage, or its fault, by the item that declares it
abbrev pub IsStageDomain : List Setting → List Declaration → Symbol → Result Area IntervalFault → Type 0
IsStageDomain ss ds s r = (d : Declaration) × (slice_get ds s.item ≡ Some d) × IsDomain ss d r

-- each stage has its domain in the list
pub record HaveDomains (ss : List Setting) (ds : List Declaration) (stages : List Symbol) (areas : List Area) : Type 0 where
  pub each : length areas ≡ length stages
  pub domain : (k : ℕ) (s : Symbol) (a : Area) → slice_get stages k ≡ Some s → slice_get areas k ≡ Some a → IsStageDomain ss ds s (Ok a)

-- stage k is the first without a domain, for this fault of its intervals
pub record IsFirstFaultyDomain (ss : List Setting) (ds : List Declaration) (stages : List Symbol) (fault : IntervalFault) (k : ℕ) : Type 0
  where
    pub stage : Symbol
    pub there : slice_get stages k ≡ Some stage
    pub faulty : IsStageDomain ss ds stage (Err fault)
    pub before : (i : ℕ) (s : Symbol) → i < k → slice_get stages i ≡ Some s → (a : Area) × IsStageDomain ss ds s (Ok a)
