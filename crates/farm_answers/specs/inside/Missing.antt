-- What is still missing of a job's work while it is made.
use Rattle.std.specs.Prelude.{◌≡◌, ◌≢◌, ◌⊎◌, ℕ, Bool, false, Some, List, AllPairs, Contains, map, slice_get}
use Rattle.catalog.specs.Entries.{Entry, IsCatalog, ids_of}
use Rattle.identity.specs.declared.key.Key.{Key}
use Rattle.job.specs.Answers.{Tile}
use Rattle.job.specs.WellFormed.{IsJob}
use Rattle.fact_store.specs.Facts.{FactSet}
use Rattle.held_facts.specs.Answers.{AreHeld, IsNotHeld}
use Rattle.held_facts.specs.HeldFacts.{HoldsTrueFacts}
use Rattle.held_facts.specs.Making.{IsMakeFault}
use Rattle.held_facts.specs.declared.make_fault.MakeFault.{MakeFault}
use Rattle.held_facts.specs.declared.make_fault.MakeFault.TheVariants as makes
use Rattle.overlap_tiles.specs.Needs.{key_of}
use Rattle.overlap_tiles.specs.Work.{IsWork, IsWorkedBefore, is_tile_over_scratch_limit, wanted_keys}

-- the key of a tile of the job
abbrev pub key_in : Entry → Tile → Key
key_in entry t = key_of (ids_of entry).program entry.pipeline t

-- all that is held is true, and the fact of the key is made unless memory is refused
pub record CanMake (catalog : List Entry) (s : FactSet) (inlining : List Bool) (key : Key) : Type 0 where
  pub truth : HoldsTrueFacts catalog s
  pub none : (fault : MakeFault) → fault ≢ makes.Memory → ¬ (IsMakeFault catalog s inlining key fault)

-- The job is one of the catalog, each tile of its work fits into scratch memory, and all that is held is true. These are tiles of
-- its work, in dependence order, among them all those of which nothing is held
pub record LeavesTiles (catalog : List Entry) (entry : Entry) (inlining : List Bool) (s : FactSet) (tiles : List Tile) : Type 0 where
  pub apart : IsCatalog catalog
  pub good : IsJob entry.pipeline
  pub index : ℕ
  pub there : slice_get catalog index ≡ Some entry
  pub roomy : (t : Tile) → IsWork entry.pipeline inlining t → is_tile_over_scratch_limit entry.pipeline inlining t ≡ false
  pub truth : HoldsTrueFacts catalog s
  pub work : (t : Tile) → Contains tiles t → IsWork entry.pipeline inlining t
  pub order : AllPairs (IsWorkedBefore entry.pipeline) tiles
  pub held_or_left : (t : Tile) → IsWork entry.pipeline inlining t → (¬ IsNotHeld s (key_in entry t)) ⊎ Contains tiles t

-- and these are the keys of such tiles
abbrev pub IsLeft : List Entry → Entry → List Bool → FactSet → List Key → Type 0
IsLeft catalog entry inlining s keys =
    (tiles : List Tile) × (keys ≡ map (key_in entry) tiles) × LeavesTiles catalog entry inlining s tiles

-- all that is held is true, and all tiles from which the answer is composed are held
pub record HoldsAnswerOf (catalog : List Entry) (s : FactSet) (entry : Entry) : Type 0 where
  pub apart : IsCatalog catalog
  pub good : IsJob entry.pipeline
  pub here : Contains catalog entry
  pub truth : HoldsTrueFacts catalog s
  pub held : AreHeld s (wanted_keys (ids_of entry).program entry.pipeline)
