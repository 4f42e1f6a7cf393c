-- How the needs of a tile are looked up, one after another.
use Rattle.std.specs.Prelude.{ℕ, ◌≡◌, ◌<◌, ◌⊎◌, Bool, Some, List, Contains, slice_get}
use Rattle.identity.specs.declared.key.Key.{Key}
use Rattle.job.specs.Pipeline.{Pipeline}
use Rattle.overlap_tiles.specs.Plans.{Plan, IsTilePlan}
use Rattle.held_facts.specs.declared.answers.Known.TheVariants.{Nothing, Disputed}
use Rattle.held_facts.specs.declared.make_fault.MakeFault.{MakeFault}
use Rattle.held_facts.specs.declared.make_fault.MakeFault.TheVariants as fault
use Rattle.held_facts.specs.Answers.{known_of}
use Rattle.held_facts.specs.Making.{IsReady, IsMisshapen}
use Rattle.held_facts.specs.Facts.{FactSet}

-- one fact of each need is held, and it fits
abbrev pub AreReady : FactSet → Pipeline → List Key → Type 0
AreReady s job needs = (need : Key) → Contains needs need → IsReady s job need

-- why a need is not looked up. Memory is refused only for one that is ready
abbrev pub IsNeedFault : FactSet → Pipeline → Key → MakeFault → Type 0
IsNeedFault s job need fault.Foreign = ⊥
IsNeedFault s job need fault.NoSuchTile = ⊥
IsNeedFault s job need fault.ScratchTooBig = ⊥
IsNeedFault s job need fault.Retired = ⊥
IsNeedFault s job need (fault.NeedMissing named) = (named ≡ need) × (known_of s need ≡ Nothing)
IsNeedFault s job need (fault.NeedDisputed named) = (named ≡ need) × (known_of s need ≡ Disputed)
IsNeedFault s job need (fault.NeedMisshapen named) = (named ≡ need) × IsMisshapen s job need
IsNeedFault s job need fault.Memory = IsReady s job need

-- the need at this place is not looked up, and those before it are ready
pub record IsStoppedAt (s : FactSet) (job : Pipeline) (needs : List Key) (why : MakeFault) : Type 0 where
  pub place : ℕ
  pub need : Key
  pub there : slice_get needs place ≡ Some need
  pub reason : IsNeedFault s job need why
  pub before : (k : ℕ) (other : Key) → k < place → slice_get needs k ≡ Some other → IsReady s job other

-- why the needs are not looked up
abbrev pub IsNeedsFault : FactSet → Pipeline → List Key → MakeFault → Type 0
IsNeedsFault s job needs why = (why ≡ fault.Memory) ⊎ IsStoppedAt s job needs why

-- the plan is that of the tile that the key names
pub record IsPlanOfKey (program : List ℕ) (job : Pipeline) (key : Key) (p : Plan) : Type 0 where
  pub inlining : List Bool
  pub plan : IsTilePlan program job inlining key.stage key.row key.col p
