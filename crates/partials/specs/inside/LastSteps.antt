-- The last step of a tile's layout.
use Rattle.std.specs.Prelude.{ℕ, ◌≡◌, List, [], ◌∷◌, ◌++◌}
use Rattle.domains.specs.declared.area.Area.{Area}

-- the step is the last of these
abbrev pub IsLastStep : List (ℕ × Area) → ℕ × Area → Type 0
IsLastStep steps step = (inner : List (ℕ × Area)) (last : ℕ × Area) → steps ≡ inner ++ last ∷ [] → step ≡ last
