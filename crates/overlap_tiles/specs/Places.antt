-- Places: the number of a stage among the steps before the last.
use Rattle.std.specs.Prelude.{ℕ, suc, ◌<◌, ◌≡◌, ◌≢◌, Some, List, length, slice_get}
use Rattle.domains.specs.declared.area.Area.{Area}

-- the step at place k, which is not the last, is that of stage g
abbrev pub IsPlaceOf : List (ℕ × Area) → ℕ → ℕ → Type 0
IsPlaceOf steps g k = (area : Area) × (slice_get steps k ≡ Some (g, area)) × (suc k < length steps)

-- no step before the last is that of stage g
abbrev pub HasNoPlace : List (ℕ × Area) → ℕ → Type 0
HasNoPlace steps g = (k : ℕ) (area : Area) → suc k < length steps → slice_get steps k ≢ Some (g, area)
