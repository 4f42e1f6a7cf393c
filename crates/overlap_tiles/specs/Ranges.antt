-- Ranges: the places in scratch memory of the steps before the target, each by its start and its length.
use Rattle.std.specs.Prelude.{ℕ, ◌+◌, ◌<◌, ◌≤◌, ◌≡◌, ◌⊎◌, Some, List, map, slice_get, All}
use Rattle.domains.specs.Area.{point_count}
use Rattle.tile_boxes.specs.Targets.{Target}
use Rattle.tile_boxes.specs.Costs.{inner_steps, steps, scratch}
use Rattle.overlap_tiles.specs.Lives.{LivesMeet}

-- no place lies in both ranges
abbrev pub LieApart : ℕ × ℕ → ℕ × ℕ → Type 0
LieApart a b = (a.0 + a.1 ≤ b.0) ⊎ (b.0 + b.1 ≤ a.0)

-- a range is free at the step at place k: it meets no range of an earlier step whose life meets that of step k
abbrev pub IsFree : Target → List (ℕ × ℕ) → ℕ → ℕ × ℕ → Type 0
IsFree t ranges k a =
    (l : ℕ) (b : ℕ × ℕ) → l < k → slice_get ranges l ≡ Some b → LivesMeet t.job (steps t) l k → LieApart b a

-- all ranges lie in scratch memory of this size
abbrev pub LieWithin : ℕ → List (ℕ × ℕ) → Type 0
LieWithin size ranges = All (λ r. r.0 + r.1 ≤ size) ranges

-- each range has the length of its step's points, and what is still to be read is not overwritten. A range starts at the least
-- place where it is free, and scratch memory is no larger than the ranges
pub record HaveRoom (t : Target) (ranges : List (ℕ × ℕ)) (size : ℕ) : Type 0 where
  pub lengths : map (λ r. r.1) ranges ≡ map (λ s. point_count s.1) (inner_steps t)
  pub apart : (k l : ℕ) (a b : ℕ × ℕ) → k < l → slice_get ranges k ≡ Some a → slice_get ranges l ≡ Some b
      → LivesMeet t.job (steps t) k l → LieApart a b
  pub least : (k start : ℕ) (a : ℕ × ℕ) → slice_get ranges k ≡ Some a → IsFree t ranges k (start, a.1) → a.0 ≤ start
  pub within : LieWithin size ranges
  pub whole : (n : ℕ) → LieWithin n ranges → size ≤ n
  pub most : size ≤ scratch t
