-- Pairs, row by row.
use Rattle.std.specs.Prelude.{◌≡◌, ◌⊎◌, List, map}
use Rattle.std.specs.List.{flat_map}

-- each of the first with each of the second, row by row
abbrev pub pairs : {A B : Type 0} → List A → List B → List (A × B)
pairs rs cs = flat_map (λ r. map (λ c. (r, c)) cs) rs

-- a pair comes before another, row by row, where R orders the first components, and S the second
abbrev pub IsBeforeBy : {A B : Type 0} → (A → A → Type 0) → (B → B → Type 0) → A × B → A × B → Type 0
IsBeforeBy R S s t = R s.0 t.0 ⊎ ((s.0 ≡ t.0) × S s.1 t.1)
