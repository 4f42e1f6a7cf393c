-- The table that a layout keeps of the places of stages.
use Rattle.std.specs.Prelude.{ℕ, suc, ◌<◌, ◌≡◌, ◌≢◌, Option, Some, None, List, map, length, slice_index_or}
use Rattle.domains.specs.declared.area.Area.{Area}

-- the stage of the step at place k
abbrev pub stage_at : List (ℕ × Area) → ℕ → ℕ
stage_at steps k = slice_index_or (map (λ s. s.0) steps) k 0

-- for each stage the table has the place of its step before the last, and no other places
pub record ArePlaces (steps : List (ℕ × Area)) (places : List (Option ℕ)) : Type 0 where
  pub there : (g k : ℕ) → slice_index_or places g None ≡ Some k → (suc k < length steps) × (stage_at steps k ≡ g)
  pub all : (k : ℕ) → suc k < length steps → slice_index_or places (stage_at steps k) None ≢ None
