-- A record before its numbers.
use Rattle.std.specs.Int.{w32, to_be_bytes}
use Rattle.std.specs.Prelude.{ℕ, List, ◌∷◌, ◌++◌, length}
use Rattle.tile_fact.specs.Bodies.{kind, numbers}
use Rattle.tile_fact.specs.declared.fact.Fact.{Fact}
use Rattle.tile_fact.specs.FactFile.{key_bytes}

-- the key, the kind and how many numbers there are
abbrev pub label_bytes : Fact → List ℕ
label_bytes fact = key_bytes fact.key ++ kind fact.body ∷ to_be_bytes w32 (length (numbers fact.body))
