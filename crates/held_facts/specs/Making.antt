-- What a node makes of a tile from what it holds, and why it makes nothing.
use Rattle.std.specs.Option.{option_and_then}
use Rattle.std.specs.Prelude.{ℕ, ◌≡◌, ◌<◌, ◌≤◌, ◌==◌, ◌&&◌, Bool, true, List, Contains, find}
use Rattle.std.specs.List.{flat_map}
use Rattle.partials.specs.Partials.{local_totals}
use Rattle.catalog.specs.Entries.{Entry, StandsAt, ids_in}
use Rattle.domains.specs.declared.area.Area.{Area}
use Rattle.fact_audit.specs.TrueFacts.{HasJob, IsTrueFact}
use Rattle.tile_boxes.specs.Costs.{scratch, most_scratch}
use Rattle.tile_boxes.specs.Schedules.{is_function_stage}
use Rattle.tile_boxes.specs.Targets.{Target, target_over}
use Rattle.identity.specs.declared.key.Key.{Key}
use Rattle.job.specs.Identity.{HasTileAt}
use Rattle.job.specs.Pipeline.{Pipeline}
use Rattle.overlap_tiles.specs.Needs.{needed_keys, IsKeyBefore}
use Rattle.overlap_tiles.specs.Plans.{IsTileAt}
use Rattle.tile_eval.specs.Raster.{raster}
use Rattle.tile_fact.specs.declared.body.Body.{Body}
use Rattle.tile_fact.specs.declared.body.Body.TheVariants.{Tile, Partial}
use Rattle.tile_fact.specs.declared.fact.Fact.{Fact}
use Rattle.tile_sources.specs.KnownTiles.{KnownTiles}
use Rattle.one_tile.specs.Local.{local_value}
use Rattle.tile_run.specs.Work.{is_accumulator_at}
use Rattle.held_facts.specs.declared.make_fault.MakeFault.{MakeFault}
use Rattle.held_facts.specs.declared.make_fault.MakeFault.TheVariants as fault
use Rattle.held_facts.specs.Facts.{FactSet, facts_of, holds}
pub use Rattle.held_facts.specs.HeldFacts.{IsMisshapen, IsReady, samples_in}
use Rattle.held_facts.specs.Answers.{known_of}
use Rattle.held_facts.specs.declared.answers.Known.TheVariants.{Nothing, Disputed}

-- ---- the requested tile

-- the key's tile is one of a function or an accumulator of the job, and P holds of it as a target
pub record HasTarget (job : Pipeline) (inlining : List Bool) (key : Key) (P : Target → Type 0) : Type 0 where
  pub area : Area
  pub tile : IsTileAt job key.stage key.row key.col area
  pub holds : P (target_over job inlining key.stage area)

-- a job of the catalog has the key's identities, it has the key's tile, and P holds of that
abbrev pub HasTargetIn : List Entry → List Bool → Key → (Target → Type 0) → Type 0
HasTargetIn catalog inlining key P = HasJob catalog key (λ job. HasTarget job inlining key P)

-- the keys of the tiles of stored functions that it reads, rising
abbrev pub needs_for : Key → Target → List Key
needs_for key t = needed_keys key.program t

-- ---- what is held of its needs

-- whether a fact is of the tile of stage g in row i and column j
abbrev pub is_of_tile : ℕ → ℕ → ℕ → Fact → Bool
is_of_tile g i j f = f.key.stage == g && (f.key.row == i && f.key.col == j)

-- the tiles that facts of one job supply, each by the first fact of it
abbrev pub tiles_in : List Fact → KnownTiles
tiles_in facts g i j = option_and_then (λ f. samples_in f.body) (find (is_of_tile g i j) facts)

-- those that the held facts of these keys supply
abbrev pub needed_tiles : FactSet → List Key → KnownTiles
needed_tiles s needs = tiles_in (flat_map (facts_of s) needs)

-- ---- what is made

-- the numbers are those of the tile: of a function its local values, row by row, of an accumulator its local totals. Reads of
-- stored functions take the supplied numbers, and reads of inlined functions their local values
abbrev pub IsLocalBody : Target → KnownTiles → Body → Type 0
IsLocalBody t given (Tile samples) =
    (is_function_stage t.job t.stage ≡ true) × (samples ≡ raster t.region (local_value t.job t.inlining given t.stage))
IsLocalBody t given (Partial bins) =
    (is_accumulator_at t.job t.stage ≡ true) × (bins ≡ local_totals t.job t.inlining given t.region t.stage)

-- the body is that of the target over what is held of its needs, all of which are ready. What is inlined fits in scratch memory
pub record IsMadeOf (s : FactSet) (needs : List Key) (t : Target) (body : Body) : Type 0 where
  pub room : scratch t ≤ most_scratch
  pub ready : (need : Key) → Contains needs need → IsReady s t.job need
  pub numbers : IsLocalBody t (needed_tiles s needs) body

-- a fact that is made by the job that its key names
abbrev pub IsMade : List Entry → FactSet → List Bool → Fact → Type 0
IsMade catalog s inlining fact = HasTargetIn catalog inlining fact.key (λ t. IsMadeOf s (needs_for fact.key t) t fact.body)

-- each held fact of a tile that is needed is true
abbrev pub AreNeedsTrue : List Entry → FactSet → List Bool → Key → Type 0
AreNeedsTrue catalog s inlining key =
    (f : Fact) → holds s f ≡ true → HasTargetIn catalog inlining key (λ t. Contains (needs_for key t) f.key) → IsTrueFact catalog f

-- ---- why nothing is made

-- the least of the needs that is not ready, for a reason; and what is inlined fits in scratch memory
pub record IsFirstUnready (s : FactSet) (needs : List Key) (t : Target) (need : Key) (Reason : Type 0) : Type 0 where
  pub room : scratch t ≤ most_scratch
  pub needed : Contains needs need
  pub reason : Reason
  pub least : (other : Key) → Contains needs other → IsKeyBefore other need → IsReady s t.job other

abbrev pub IsMakeFault : List Entry → FactSet → List Bool → Key → MakeFault → Type 0
-- no job has the identities
IsMakeFault catalog s inlining key fault.Foreign = (i : ℕ) → ¬ (StandsAt catalog (ids_in key) i)
-- the job has no such function or accumulator, or that has no such tile
IsMakeFault catalog s inlining key fault.NoSuchTile = HasJob catalog key (λ job. ¬ (HasTileAt job key.stage key.row key.col))
IsMakeFault catalog s inlining key fault.ScratchTooBig = HasTargetIn catalog inlining key (λ t. most_scratch < scratch t)
IsMakeFault catalog s inlining key (fault.NeedMissing need) =
    HasTargetIn catalog inlining key (λ t. IsFirstUnready s (needs_for key t) t need (known_of s need ≡ Nothing))
IsMakeFault catalog s inlining key (fault.NeedDisputed need) =
    HasTargetIn catalog inlining key (λ t. IsFirstUnready s (needs_for key t) t need (known_of s need ≡ Disputed))
IsMakeFault catalog s inlining key (fault.NeedMisshapen need) =
    HasTargetIn catalog inlining key (λ t. IsFirstUnready s (needs_for key t) t need (IsMisshapen s t.job need))
-- memory may be refused wherever there is such a tile
IsMakeFault catalog s inlining key fault.Memory = HasTargetIn catalog inlining key (λ t. Unit {0})
-- held facts do not report that a job is retired
IsMakeFault catalog s inlining key fault.Retired = ⊥
