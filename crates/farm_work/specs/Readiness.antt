-- What is to be done with a key.
use Rattle.std.specs.Prelude.{◌≢◌, ◌⊎◌, Bool, true, false, List, [], ◌∷◌, ℕ}
use Rattle.farm_turns.specs.declared.standing.KeyReadiness.{KeyReadiness}
use Rattle.farm_turns.specs.declared.standing.KeyReadiness.TheVariants.{Known, Waiting, Open}
use Rattle.identity.specs.declared.key.Key.{Key}
use Rattle.job.specs.Pipeline.{Pipeline}
use Rattle.overlap_tiles.specs.Plans.{IsPlanFault, IsTilePlan, Plan}
use Rattle.overlap_tiles.specs.declared.fault.PlanFault.{PlanFault}
use Rattle.overlap_tiles.specs.declared.fault.PlanFault.TheVariants.{Memory}

-- there is no such tile, or it does not fit into scratch memory
pub record IsNoTile (job : Pipeline) (inlining : List Bool) (key : Key) : Type 0 where
  pub fault : PlanFault
  pub reason : IsPlanFault job inlining key.stage key.row key.col fault
  pub other : fault ≢ Memory

-- it needs a tile of which nothing is held, as may be told
pub record IsToWait (may_tell : List Key → Bool → Type 0) (program : List ℕ) (job : Pipeline) (inlining : List Bool) (key : Key) : Type 0 where
  pub plan : Plan
  pub of_key : IsTilePlan program job inlining key.stage key.row key.col plan
  pub lacking : may_tell plan.needs true

-- a key is known if something is held of it. Else its tile is to wait, or can be made by the plan, as something is held of all
-- that it needs
abbrev pub IsReadiness : (List Key → Bool → Type 0) → List ℕ → Pipeline → List Bool → Key → KeyReadiness Plan → Type 0
IsReadiness may_tell program job inlining key Known = may_tell (key ∷ []) false
IsReadiness may_tell program job inlining key Waiting =
    may_tell (key ∷ []) true × (IsNoTile job inlining key ⊎ IsToWait may_tell program job inlining key)
IsReadiness may_tell program job inlining key (Open plan) =
    may_tell (key ∷ []) true × IsTilePlan program job inlining key.stage key.row key.col plan × may_tell plan.needs false
