-- Facts in the order of their tiles.
use Rattle.std.specs.Prelude.{ℕ, ◌≡◌, ◌==◌, ◌&&◌, ◌||◌, nat_lt, Bool, true, List, AllPairs}
use Rattle.tile_fact.specs.declared.fact.Fact.{Fact}

-- whether the fact is of a tile before that of stage g in row i and column j
abbrev pub is_before_tile : ℕ → ℕ → ℕ → Fact → Bool
is_before_tile g i j f = nat_lt f.key.stage g || (f.key.stage == g && (nat_lt f.key.row i || (f.key.row == i && nat_lt f.key.col j)))

-- the tile of each fact is before those of the facts after it
abbrev pub TilesRise : List Fact → Type 0
TilesRise facts = AllPairs (λ f h. is_before_tile h.key.stage h.key.row h.key.col f ≡ true) facts
