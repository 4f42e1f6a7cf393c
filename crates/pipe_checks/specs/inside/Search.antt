-- What the searches for ranks and for cycles know in each step: only contracts of private functions cite this.
use Rattle.std.specs.Prelude.{ℕ, ◌+◌, ◌-◌, ◌<◌, ◌≤◌, ◌≡◌, ◌⊎◌, true, if◌then◌else◌, Option, Some, None, is_none, unwrap_or}
use Rattle.std.specs.Prelude.{count_by, Result, Ok, Err, List, map, length, slice_get, slice_index, slice_index_or, Any}
use Rattle.pipe_tree.specs.Tree.{Declaration}
use Rattle.std.specs.List.{list_any}
use Rattle.pipe_checks.specs.declared.fault.CheckFault.{CheckFault}
use Rattle.pipe_checks.specs.declared.fault.CheckFault.TheVariants.{Unknown, Twice, Kind, BadKernel, BadLiteral, NoResult, Cycle, Memory}
use Rattle.pipe_checks.specs.declared.symbol.Symbol.{Symbol}
use Rattle.pipe_checks.specs.declared.checked.CheckedLists.{CheckedLists}
use Rattle.pipe_checks.specs.declared.fault.Violation.{Violation}
use Rattle.pipe_checks.specs.declared.fault.Violation.TheVariants as violation
use Rattle.pipe_checks.specs.StageLinks.{StageLinks}
use Rattle.pipe_checks.specs.Names.{params_of, tables_of, stages_of}
use Rattle.pipe_checks.specs.Accesses.{graph_of}
use Rattle.pipe_checks.specs.Graph.{links_at, Reads, Way, IsRanking, IsShortestCycle}
use Rattle.domains.specs.Greatest.{greatest}
use Rattle.pipe_checks.specs.Checking.{is_result, AllGood, IsFirstWrong, IsNamed}

-- ---- ranks

-- the number of entries that are unknown
abbrev pub unknowns : List (Option ℕ) → ℕ
unknowns xs = count_by is_none xs

-- the known rank of a stage, or else 0
abbrev pub known_rank : List (Option ℕ) → ℕ → ℕ
known_rank ranks t = unwrap_or (slice_index_or ranks t None) 0

-- the rank of a stage by the ranks of those that it reads: 0 for a plane, else 1 more than the greatest, or 1
abbrev pub rank_over : (ℕ → ℕ) → StageLinks → ℕ
rank_over rank l = if l.is_plane then 0 else greatest (map rank l.reads) + 1

-- a known rank and the number of unknown ranks are together at most n
abbrev pub IsBounded : List (Option ℕ) → ℕ → Type 0
IsBounded ranks n = (t r : ℕ) → slice_get ranks t ≡ Some (Some r) → r + unknowns ranks ≤ n

-- one of these stages has no rank yet
abbrev pub SomeUnranked : List (Option ℕ) → List ℕ → Type 0
SomeUnranked ranks reads = Any (λ t. slice_get ranks t ≡ Some None) reads

-- each known rank is the stage's rank by those that it reads, and these are known too
pub record AreRanked (g : List StageLinks) (ranks : List (Option ℕ)) : Type 0 where
  pub each : length ranks ≡ length g
  pub bounded : IsBounded ranks (length g)
  pub rank : (s r : ℕ) → slice_get ranks s ≡ Some (Some r) → r ≡ rank_over (known_rank ranks) (links_at g s)
  pub ranked : (s r : ℕ) → slice_get ranks s ≡ Some (Some r) → ¬ (SomeUnranked ranks (links_at g s).reads)

-- ---- cycles

-- one of these stages is known to be at this distance
abbrev pub SomeAt : List (Option ℕ) → List ℕ → ℕ → Type 0
SomeAt far reads k = Any (λ t. slice_get far t ≡ Some (Some k)) reads

-- a stage whose distance is unknown reads one that is known to be at this distance
abbrev pub LeadsOn : List StageLinks → List (Option ℕ) → ℕ → Type 0
LeadsOn g far k = (s : ℕ) × (slice_get far s ≡ Some None) × SomeAt far (links_at g s).reads k

-- how a distance changes: it stays, or is found to be k + 1, or stays unknown
abbrev pub IsStepAt : List StageLinks → List (Option ℕ) → ℕ → ℕ → Option ℕ → Type 0
IsStepAt g far k s d =
    ((e : ℕ) × (slice_get far s ≡ Some (Some e)) × (d ≡ Some e))
    ⊎ (((slice_get far s ≡ Some None) × SomeAt far (links_at g s).reads k × (d ≡ Some (k + 1)))
    ⊎ ((slice_get far s ≡ Some None) × (SomeAt far (links_at g s).reads k → ⊥) × (d ≡ None)))

-- the distances, with those of k + 1 added
pub record IsStepFrom (g : List StageLinks) (far : List (Option ℕ)) (k : ℕ) (next : List (Option ℕ)) : Type 0 where
  pub each : length next ≡ length far
  pub step : (s : ℕ) (d : Option ℕ) → slice_get next s ≡ Some d → IsStepAt g far k s d

-- all stages that lead to the goal are known, with the least number of reads
pub record AreDistances (g : List StageLinks) (goal : ℕ) (far : List (Option ℕ)) : Type 0 where
  pub each : length far ≡ length g
  pub way : (t d : ℕ) → slice_get far t ≡ Some (Some d) → Way g d t goal
  pub low : (t d : ℕ) → slice_get far t ≡ Some (Some d) → d < length g
  pub least : (t k : ℕ) → Way g k t goal → (d : ℕ) × (slice_get far t ≡ Some (Some d)) × (d ≤ k)

-- a list of stages from the start back to it, of which each reads the next. It has the least of those at the distance left, then
-- the least of those at one less, and so on
pub record IsWayBack (g : List StageLinks) (start : ℕ) (far : List (Option ℕ)) (left : ℕ) (c : List ℕ) : Type 0 where
  pub long : length c ≡ left + 2
  pub first : slice_index c 0 ≡ start
  pub last : slice_index c (length c - 1) ≡ start
  pub reads : (i : ℕ) → i + 1 < length c → Reads g (slice_index c i) (slice_index c (i + 1))
  pub at : (i : ℕ) → i + 1 < length c → slice_get far (slice_index c (i + 1)) ≡ Some (Some (left - i))
  pub least : (i u : ℕ) → i + 1 < length c → Reads g (slice_index c i) u → slice_get far u ≡ Some (Some (left - i))
      → slice_index c (i + 1) ≤ u

-- ---- a whole program

abbrev pub fault_of : Violation → ℕ → CheckFault
fault_of violation.Unknown n = Unknown n
fault_of violation.Kind n = Kind n
fault_of violation.BadKernel n = BadKernel n
fault_of violation.BadLiteral n = BadLiteral n

-- all places are good, or this is the fault of the first place that is not
abbrev pub IsJudged : List Symbol → List Declaration → Result (Unit {0}) CheckFault → Type 0
IsJudged names ds (Ok u) = AllGood names ds
IsJudged names ds (Err f) = (wrong : Violation) × (n : ℕ) × (f ≡ fault_of wrong n) × IsFirstWrong names ds wrong n

-- stages that read each other in a cycle, or memory
abbrev pub IsCyclic : List StageLinks → CheckFault → Type 0
IsCyclic g (Cycle c) = IsShortestCycle g c
IsCyclic g Memory = Unit {0}
IsCyclic g (Twice n) = ⊥
IsCyclic g (Unknown n) = ⊥
IsCyclic g (Kind n) = ⊥
IsCyclic g (BadKernel n) = ⊥
IsCyclic g (BadLiteral n) = ⊥
IsCyclic g NoResult = ⊥

-- the results for a program without a fault
pub record IsFound (ds : List Declaration) (f : CheckedLists) : Type 0 where
  pub named : IsNamed ds
  pub result : list_any is_result ds ≡ true
  pub stages : f.stages.items ≡ stages_of ds
  pub params : f.params.items ≡ params_of ds
  pub tables : f.tables.items ≡ tables_of ds
  pub reads : f.graph.items ≡ graph_of ds
  pub ranks : IsRanking (graph_of ds) f.ranks.items
