-- The spans of tables, at the values of the parameters.
use Rattle.std.specs.Prelude.{ℕ, ◌<◌, ◌≡◌, Some, Result, Ok, Err, List, length, slice_get}
use Rattle.domains.specs.Span.{Ends}
use Rattle.pipe_tree.specs.declared.tree.Table.{Table}
use Rattle.pipe_tree.specs.Tree.{Declaration, table}
use Rattle.pipe_checks.specs.declared.symbol.Symbol.{Symbol}
use Rattle.pipe_bounds.specs.declared.domain.IntervalFault.{IntervalFault}
use Rattle.pipe_bounds.specs.declared.params.Setting.{Setting}
use Rattle.pipe_bounds.specs.Settings.{affine_value}
use Rattle.pipe_bounds.specs.Domains.{IsBins}

-- the span of a table, or its fault, by the item that declares it: its width has the limit of bins
abbrev pub IsTableSpan : List Setting → List Declaration → Symbol → Result Ends IntervalFault → Type 0
IsTableSpan ss ds s r =
    (t : Table) × (slice_get ds s.item ≡ Some (table t)) × IsBins (affine_value ss t.span.first) (affine_value ss t.span.last) r

abbrev pub TablesStand : List Setting → List Declaration → List Symbol → Type 0
TablesStand ss ds tables = (k : ℕ) (s : Symbol) → slice_get tables k ≡ Some s → (e : Ends) × IsTableSpan ss ds s (Ok e)

-- each table has its span in the list
pub record AreSpansOf (ss : List Setting) (ds : List Declaration) (tables : List Symbol) (spans : List Ends) : Type 0 where
  pub each : length spans ≡ length tables
  pub span : (k : ℕ) (s : Symbol) (e : Ends) → slice_get tables k ≡ Some s → slice_get spans k ≡ Some e → IsTableSpan ss ds s (Ok e)

-- table k is the first without a span, for this fault of its ends
pub record IsFirstFaultyTable (ss : List Setting) (ds : List Declaration) (tables : List Symbol) (fault : IntervalFault) (k : ℕ) : Type 0
  where
    pub declared : Symbol
    pub there : slice_get tables k ≡ Some declared
    pub faulty : IsTableSpan ss ds declared (Err fault)
    pub before : (i : ℕ) (s : Symbol) → i < k → slice_get tables i ≡ Some s → (e : Ends) × IsTableSpan ss ds s (Ok e)
