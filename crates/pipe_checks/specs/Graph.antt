-- Which stages read which, the ranks of stages, and cycles of reads. Stages are identified by their numbers.
use Rattle.std.specs.Prelude.{ℕ, zero, suc, ◌+◌, ◌-◌, ◌<◌, ◌≤◌, ◌≡◌, true, false, List, [], length, slice_index, slice_index_or, Contains}
use Rattle.pipe_checks.specs.StageLinks.{StageLinks}

-- the stage of this number; a number that no stage has reads nothing
abbrev pub links_at : List StageLinks → ℕ → StageLinks
links_at g s = slice_index_or g s (record { is_plane = false; reads = [] })

abbrev pub IsPlane : List StageLinks → ℕ → Type 0
IsPlane g s = (links_at g s).is_plane ≡ true

-- stage s reads stage t
abbrev pub Reads : List StageLinks → ℕ → ℕ → Type 0
Reads g s t = Contains (links_at g s).reads t

-- ---- ranks

-- a number for each stage: 0 for a plane; for any other stage at least 1, and greater than those of all that it reads
pub record IsRanked (g : List StageLinks) (ranks : List ℕ) : Type 0 where
  pub each : length ranks ≡ length g
  pub plane : (s : ℕ) → IsPlane g s → slice_index ranks s ≡ 0
  pub other : (s : ℕ) → s < length g → ¬ (IsPlane g s) → 1 ≤ slice_index ranks s
  pub above : (s t : ℕ) → ¬ (IsPlane g s) → Reads g s t → slice_index ranks t < slice_index ranks s

-- the least such numbers
pub record IsRanking (g : List StageLinks) (ranks : List ℕ) : Type 0 where
  pub ranked : IsRanked g ranks
  pub least : (others : List ℕ) → IsRanked g others → (s : ℕ) → slice_index ranks s ≤ slice_index others s

-- ---- cycles

-- k reads lead from s to t
abbrev pub Way : List StageLinks → ℕ → ℕ → ℕ → Type 0
Way g zero s t = s ≡ t
Way g (suc k) s t = (u : ℕ) × Reads g s u × Way g k u t

-- no stage reads itself through any number of reads
abbrev pub IsAcyclic : List StageLinks → Type 0
IsAcyclic g = (s k : ℕ) → Way g (suc k) s s → ⊥

-- a closed list of stages of which each reads the next
pub record IsCycle (g : List StageLinks) (c : List ℕ) : Type 0 where
  pub long : 2 ≤ length c
  pub closed : slice_index c 0 ≡ slice_index c (length c - 1)
  pub reads : (i : ℕ) → i + 1 < length c → Reads g (slice_index c i) (slice_index c (i + 1))

-- a cycle from s; no cycle from s is shorter, and none of its length has a lesser stage where they first differ
pub record IsShortestFrom (g : List StageLinks) (s : ℕ) (c : List ℕ) : Type 0 where
  pub cycle : IsCycle g c
  pub start : slice_index c 0 ≡ s
  pub shortest : (d : List ℕ) → IsCycle g d → slice_index d 0 ≡ s → length c ≤ length d
  pub first : (d : List ℕ) → IsCycle g d → slice_index d 0 ≡ s → length d ≡ length c → (i : ℕ) → i < length c
      → ((k : ℕ) → k < i → slice_index d k ≡ slice_index c k) → slice_index c i ≤ slice_index d i

-- the first of the shortest cycles from the least stage that is on any
pub record IsShortestCycle (g : List StageLinks) (c : List ℕ) : Type 0 where
  pub from_start : IsShortestFrom g (slice_index c 0) c
  pub least : (d : List ℕ) → IsCycle g d → slice_index c 0 ≤ slice_index d 0
