-- The byte after parameters.
use Rattle.std.specs.Prelude.{ℕ, ◌≡◌, ◌<◌, ◌⊎◌}

-- no name has this length: a name has 1 to 32 bytes
abbrev pub EndsNames : ℕ → Type 0
EndsNames m = (m ≡ 0) ⊎ (32 < m)
